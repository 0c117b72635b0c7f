-- A step on the bytes of an image is the executive's: what its decision says, refused or done.
use Prim.Native.Nat.{ℕ, ◌+◌, ◌<◌}
use mathlib.Core.Path.{◌≡◌, refl, sym, ap, subst, ◌∙◌}
use mathlib.Core.Bool.{Bool, true, false, cond}
use mathlib.Core.List.{List, [], ◌∷◌}
use mathlib.Core.Logic.{◌≢◌}
use native.Mathlib.Omega.{arith}
use borrow.Author.Tests.{eq-eqb, ne_eqb, eqb-true}
use lib.Dec.{eqb}
use lib.ListN.{length, get_or, take}
use Rattle.records.specs.declared.TaskNo.{TaskNo}
use Rattle.executive.specs.declared.Sub.{Sub}
use Rattle.executive.specs.declared.Table.{Table}
use Rattle.executive.specs.declared.Answer.{Answer}
use Rattle.executive.specs.declared.Marks.{Marks}
use Rattle.executive.specs.declared.Outcome.{Outcome}
use Rattle.executive.specs.declared.decisions.Decision.{Decision}
use Rattle.executive.specs.Places.{nobody}
use Rattle.executive.specs.Subprograms.{no_subprogram}
use Rattle.executive.specs.Plans.{caller}
use Rattle.executive.specs.Lists.{◌and◌, pad}
use Rattle.executive.specs.Check.{queue_right, all_but_queue, is_well_formed}
use Rattle.executive.specs.WellFormed.{WellFormed, Sizes}
use Rattle.executive.specs.Table.{Join, head_of, joins, join, enter_all_in_flight, enter_in_flight, apply, apply_in_flight, depart, relit, with_rest}
use Rattle.executive.specs.Decisions.{meant, Doable, refusing}
use Rattle.executive.specs.Deciding.{caller_right, decision_in, decision_for}
use Rattle.executive.specs.Step.{no_table, answer_of, has_v, refused, step_of}
use Rattle.executive.specs.Sheet.{marks}
use Rattle.executive.specs.Promises.ByDecision.{done, enacted}
use Rattle.executive.proofs.Assured.{false_not_true, demands, decided, by_decision, queue-right, can_be_done, head-taken}
use Rattle.image.specs.Blocks.{blocks}
use Rattle.image.specs.Image.{image_of, load_of, is_image, task_from, place_from, alarm_from, request_from, sub_from, message_from, mail_from}
use Rattle.image.specs.EntryPoints.{answer_to, image_after, Holds}
use Rattle.image.specs.Laid.{Laid}
use Rattle.image.proofs.Spans.{each_or, length-blocks}
use Rattle.image.proofs.Trips.{each-block, image-parts}
use Rattle.image.proofs.ReadOff.{place_read, ready_read}
use Rattle.image.proofs.LoadLaid.{laid-holds}

-- ---- an image is laid as the table that it loads to
load_sizes : (s : List ℕ) → Sizes (load_of s)
unfolding load_of pad
load_sizes s = record {
  tasks = length-blocks (task_from s) 1 16 0;
  queue = length-blocks (place_from s) 1 16 416;
  alarms = length-blocks (alarm_from s) 8 32 448;
  pool = length-blocks (request_from s) 6 32 704;
  subs = length-blocks (sub_from s) 18 8 914;
  lines =
      each_or (λ (x : Sub). length x.line ≡ 16) no_subprogram refl (blocks (sub_from s) 18 8 914)
      (each-block (λ (x : Sub). length x.line ≡ 16) (sub_from s) (λ at. length-blocks (place_from s) 1 16 (at + 2)) 18 8 914);
  messages = length-blocks (message_from s) 11 32 1058;
  mail = length-blocks (mail_from s) 9 16 1411;
}

pub loaded : (s : List ℕ) → is_image s ≡ true → Laid s (load_of s)
loaded s i = record { image = sym (image-parts s i).1; sizes = load_sizes s }

-- ---- the active task
module _ {s : List ℕ} (t : Table) (l : Laid s t) where
  pub idle-is : get_or s 432 0 ≡ 0 → nobody ≡ caller t
  idle-is z = ap (λ n. head_of (take n t.queue)) (sym z ∙ ready_read t l)

  pub active-is : (get_or s 432 0 ≡ 0 → ⊥) → record { 0 = get_or s 416 0 } ≡ caller t
  active-is h =
      let r = ready_read t l in
      let g : 0 < t.ready = omega (arith, h, r) in
      (λ j. record { 0 = place_read t l 0 (omega arith) j }) ∙ head-taken nobody t.ready t.queue g l.sizes.queue

-- ---- a plan in flight leaves the plan's table
joined-all : (js : List Join) (t : Table) (n : ℕ) → (enter_all_in_flight js (record { table = t; walked = n })).table ≡ joins js t
unfolding enter_all_in_flight enter_in_flight joins join
joined-all [] t n = refl
joined-all (j ∷ js) t n = joined-all js _ _

-- ---- the number of a refusal
refused-number : (t : Table) (n : ℕ) → (refused t n).answer.number ≡ n
unfolding refused
refused-number t n = go (eqb n 1) refl
  where
    go : (b : Bool) → eqb n 1 ≡ b → (cond {A = Outcome} b (record { answer = no_table; table = t }) (record { answer = answer_of n (marks false (has_v n) false) 0 t; table = t })).answer.number ≡ n
    go true e = sym (eqb-true n 1 e)
    go false e = refl

module _ (t : Table) (s : List ℕ) where
  abbrev said : Decision
  said = decision_for t.tasks t.rest (caller t) s

  flight_is : (apply_in_flight (meant said.deed t) t).table ≡ apply (meant said.deed t) t
  unfolding apply_in_flight apply
  flight_is = ap (λ (u : Table). relit (with_rest (meant said.deed t).rest u)) (joined-all (meant said.deed t).ins (depart (meant said.deed t).out t) 0)

  formed-step : WellFormed t → step_of t s ≡ enacted t said
  formed-step w = by_decision.step t s ∙ rw (queue-right t s w) refl

  refused-step : WellFormed t → said.number ≢ 0 → step_of t s ≡ refused t said.number
  unfolding enacted
  refused-step w h = formed-step w ∙ rw (ne_eqb said.number 0 h) refl

  done-step : WellFormed t → said.number ≡ 0 → step_of t s ≡ done t said
  unfolding enacted
  done-step w h = formed-step w ∙ rw (eq-eqb said.number 0 h) refl

  broken-step : (WellFormed t → ⊥) → step_of t s ≡ refused t 1
  unfolding enacted done
  broken-step h = go (queue_right t) refl (eqb said.number 0) refl
    where
      one : (step_of t s).answer.number ≡ 1
      one = (demands.unformed t s).1 h

      go : (b : Bool) → queue_right t ≡ b → (c : Bool) → eqb said.number 0 ≡ c → step_of t s ≡ refused t 1
      go false eb c ec = by_decision.step t s ∙ rw eb refl
      go true eb true ec =
          let f : step_of t s ≡ done t said = by_decision.step t s ∙ rw (eb, ec) refl in
          let z : (step_of t s).answer.number ≡ 0 = ap (λ (o : Outcome). o.answer.number) f in
          absurd (omega (arith, one, z))
      go true eb false ec =
          let f : step_of t s ≡ refused t said.number = by_decision.step t s ∙ rw (eb, ec) refl in
          let z : said.number ≡ 1 = sym (refused-number t said.number) ∙ sym (ap (λ (o : Outcome). o.answer.number) f) ∙ one in
          f ∙ ap (refused t) z

  -- what is decided of the record alone, where there is no number 1
  pub in_is_for : WellFormed t → decision_in t.tasks t.rest (caller t) s ≡ said
  unfolding decision_for
  in_is_for w = go (all_but_queue t.tasks t.rest and caller_right t.tasks (caller t)) refl
    where
      go : (b : Bool) → (all_but_queue t.tasks t.rest and caller_right t.tasks (caller t)) ≡ b → decision_in t.tasks t.rest (caller t) s ≡ said
      go true e = rw e refl
      go false e =
          let f : said ≡ refusing 1 = rw e refl in
          let n : said.number ≡ 1 = ap (λ (d : Decision). d.number) f in
          let g = refused-step w (λ z. absurd (omega (arith, n, z))) in
          let q : (step_of t s).answer.number ≡ 1 = ap (λ (o : Outcome). o.answer.number) g ∙ refused-number t said.number ∙ n in
          absurd ((demands.unformed t s).0 q w)

  pub can_do : WellFormed t → said.number ≡ 0 → Doable said.deed t
  can_do w h = can_be_done t s w h

-- ---- what a step says, and the bytes that it leaves
module _ (s k : List ℕ) (i : is_image s ≡ true) where
  -- this answer and these bytes are the step's
  abbrev Says : Answer → List ℕ → Type 0
  Says a r = (a ≡ (step_of (load_of s) k).answer) × ((r ≡ image_after s k) × (a.number ≡ 0 → Holds r (step_of (load_of s) k).table))

  kept-image : (step_of (load_of s) k).answer.number ≢ 0 → s ≡ image_after s k
  unfolding image_after answer_to
  kept-image h = rw (i, ne_eqb (step_of (load_of s) k).answer.number 0 h) refl

  new-image : {r : List ℕ} → (step_of (load_of s) k).answer.number ≡ 0 → r ≡ image_of (step_of (load_of s) k).table → r ≡ image_after s k
  unfolding image_after answer_to
  new-image h e = rw (i, eq-eqb (step_of (load_of s) k).answer.number 0 h) e

  pub said-none : (a : Answer) → (WellFormed (load_of s) → ⊥) → a ≡ no_table → Says a s
  unfolding refused
  said-none a h e =
      let f = broken-step (load_of s) k h in
      let z : (step_of (load_of s) k).answer.number ≡ 1 = ap (λ (o : Outcome). o.answer.number) f in
      let ea : a ≡ (step_of (load_of s) k).answer = e ∙ sym (ap (λ (o : Outcome). o.answer) f) in
      let q : a.number ≡ 1 = ap (λ (x : Answer). x.number) ea ∙ z in
      (ea, (kept-image (λ y. absurd (omega (arith, y, z))), λ y. absurd (omega (arith, q, y))))

  pub said-refused : (a : Answer) (d : Decision) → WellFormed (load_of s) → d ≡ said (load_of s) k → d.number ≢ 0 → a ≡ (refused (load_of s) d.number).answer
      → Says a s
  said-refused a d w ed h e =
      let n : d.number ≡ (said (load_of s) k).number = ap (λ (x : Decision). x.number) ed in
      let f = refused-step (load_of s) k w (λ y. h (n ∙ y)) in
      let z : (step_of (load_of s) k).answer.number ≡ d.number = ap (λ (o : Outcome). o.answer.number) f ∙ refused-number (load_of s) (said (load_of s) k).number ∙ sym n in
      let ea : a ≡ (step_of (load_of s) k).answer = e ∙ ap (λ m. (refused (load_of s) m).answer) n ∙ sym (ap (λ (o : Outcome). o.answer) f) in
      let q : a.number ≡ d.number = ap (λ (x : Answer). x.number) ea ∙ z in
      (ea, (kept-image (λ y. h (sym z ∙ y)), λ y. absurd (h (sym q ∙ y))))

  pub said-done : (a : Answer) (d : Decision) → WellFormed (load_of s) → d ≡ said (load_of s) k → d.number ≡ 0 → (w : ℕ) {r : List ℕ}
      → Laid r (apply_in_flight (meant d.deed (load_of s)) (load_of s)).table → w ≡ (apply_in_flight (meant d.deed (load_of s)) (load_of s)).walked
      → a ≡ answer_of 0 d.marks w (apply_in_flight (meant d.deed (load_of s)) (load_of s)).table → Says a r
  unfolding done
  said-done a d wf ed h w {r} l ew ea =
      let t = load_of s in
      let n : (said t k).number ≡ 0 = ap (λ (x : Decision). x.number) (sym ed) ∙ h in
      let f = done-step t k wf n in
      let b : a ≡ answer_of 0 (said t k).marks (apply_in_flight (meant (said t k).deed t) t).walked (apply_in_flight (meant (said t k).deed t) t).table =
      ea ∙ (λ j. answer_of 0 d.marks (ew j) (apply_in_flight (meant d.deed t) t).table)
      ∙ ap (λ (x : Decision). answer_of 0 x.marks (apply_in_flight (meant x.deed t) t).walked (apply_in_flight (meant x.deed t) t).table) ed in
      let c = b ∙ ap (λ (u : Table). answer_of 0 (said t k).marks (apply_in_flight (meant (said t k).deed t) t).walked u) (flight_is t k) in
      let g : (apply_in_flight (meant d.deed t) t).table ≡ (step_of t k).table =
      ap (λ (x : Decision). (apply_in_flight (meant x.deed t) t).table) ed ∙ flight_is t k ∙ sym (ap (λ (o : Outcome). o.table) f) in
      let q : Laid r (step_of t k).table = subst (λ (u : Table). Laid r u) g l in
      (c ∙ sym (ap (λ (o : Outcome). o.answer) f), (new-image (ap (λ (o : Outcome). o.answer.number) f) q.image, λ y. laid-holds (step_of t k).table q))

  -- the same of what the code holds: its check, its caller and its decision
  pub formed : (b : Bool) → b ≡ is_well_formed (load_of s) → b ≡ true → WellFormed (load_of s)
  formed b eb h = (decided.iff (load_of s)).0 (sym eb ∙ h)

  pub unformed : (b : Bool) (a : Answer) → b ≡ is_well_formed (load_of s) → b ≡ false → a ≡ no_table → Says a s
  unformed b a eb h ea = said-none a (λ w. false_not_true (sym h ∙ eb ∙ (decided.iff (load_of s)).1 w)) ea

  pub decided-is : (c : TaskNo) (d : Decision) → WellFormed (load_of s) → c ≡ caller (load_of s) → d ≡ decision_in (load_of s).tasks (load_of s).rest c k → d ≡ said (load_of s) k
  decided-is c d w ec ed = ed ∙ (λ j. decision_in (load_of s).tasks (load_of s).rest (ec j) k) ∙ in_is_for (load_of s) k w

  pub doable-is : (d : Decision) → WellFormed (load_of s) → d ≡ said (load_of s) k → d.number ≡ 0 → Doable d.deed (load_of s)
  doable-is d w ed h = subst (λ (x : Decision). Doable x.deed (load_of s)) (sym ed) (can_do (load_of s) k w (ap (λ (x : Decision). x.number) (sym ed) ∙ h))

pub refused-one : (t : Table) (n : ℕ) → n ≡ 1 → no_table ≡ (refused t n).answer
unfolding refused
refused-one t n h = rw (eq-eqb n 1 h) refl

pub refused-other : (t : Table) (n : ℕ) (v : Bool) (m : Marks) (a : Answer) → (n ≡ 1 → ⊥) → v ≡ has_v n → m ≡ marks false v false → a ≡ answer_of n m 0 t → a ≡ (refused t n).answer
unfolding refused
refused-other t n v m a h ev em ea = rw (ne_eqb n 1 h) (ea ∙ ap (λ (x : Marks). answer_of n x 0 t) (em ∙ ap (λ (b : Bool). marks false b false) ev))
