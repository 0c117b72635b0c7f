-- A table of the second engine and the first engine's that it stands for: both are well formed together, and a step of
-- either is a step of the other.
use Prim.Native.Nat.{ℕ, zero, suc, ◌≤◌, ◌<◌, zero-le}
use mathlib.Core.Path.{◌≡◌, refl, sym, ap, subst, ◌∙◌}
use mathlib.Core.Logic.{◌≢◌}
use mathlib.Core.Bool.{Bool, true, false, cond}
use mathlib.Core.List.{List, [], ◌∷◌}
use native.Mathlib.Omega.{arith}
use borrow.Author.Tests.{ne_eqb, eqb-true, eq-eqb, ltb-true, lt-ltb, leb-true, le-leb, ltb-false}
use lib.Dec.{eqb, leb, ltb}
use lib.ListN.{length, get_or, set, take}
use lib.Seq.{length-take-le}
use Rattle.records.specs.declared.TaskNo.{TaskNo}
use Rattle.records.specs.Numbers.{Bytes}
use Rattle.executive.specs.declared.Marks.{Marks}
use Rattle.executive.specs.declared.Task.{Task}
use Rattle.executive.specs.declared.Rest.{Rest}
use Rattle.executive.specs.declared.Table.{Table}
use Rattle.executive.specs.declared.Outcome.{Outcome}
use Rattle.executive.specs.declared.decisions.Deed.{Deed}
use Rattle.executive.specs.declared.decisions.Decision.{Decision}
use Rattle.executive.specs.Lists.{one, sum_of, pad, ◌and◌}
use Rattle.executive.specs.Numbers.{most_tasks}
use Rattle.executive.specs.Places.{nobody, task_at, times_in}
use Rattle.executive.specs.Queue.{count, AllLe, Desc}
use Rattle.executive.specs.States.{ready, is}
use Rattle.executive.specs.Table.{line, items, levels_of, relit, with_rest, Out, stays, leaves, Join, Plan, departed, depart, out_tasks, join, joins, apply, apply_in_flight, begin, enter_in_flight, enter_all_in_flight, head_of}
use Rattle.executive.specs.Plans.{caller}
use Rattle.executive.specs.States as states
use Rattle.executive.specs.WellFormed.{Line, WellFormed}
use Rattle.executive.specs.Check.{queue_right, numbers_right, sizes_right, all_but_queue, is_well_formed}
use Rattle.executive.specs.Configuration.{with_tasks}
use Rattle.executive.specs.Decisions.{meant, refusing, Doable}
use Rattle.executive.specs.Deciding.{caller_right, decision_in, decision_for, rest_after}
use Rattle.executive.specs.Sheet.{marks}
use Rattle.executive.specs.Step.{answer_of, refused, step_of, has_v}
use Rattle.executive.specs.Promises.ByDecision.{done, enacted}
use Rattle.executive.proofs.Assured as executive
use Rattle.scan.specs.declared.Entry.{Entry}
use Rattle.scan.specs.declared.Scanned.{Scanned}
use Rattle.scan.specs.declared.Scan.{Scan}
use Rattle.scan.specs.Entries.{most_arrivals, no_entry, tasks_in, entry_at, is_ready, count_of, is_bearer}
use Rattle.scan.specs.Choosing.{chosen, chosen_no, order_from, order_of, arrival_in, IsReady}
use Rattle.scan.specs.Moves.{apply_scan, begin_scan, depart_scan, enter_all_scan}
use Rattle.scan.specs.Sound.{Arrivals, SoundScan, arrival_right, arrivals_right, is_sound, Checked}
use Rattle.scan.specs.Step.{answer_by, answer_scan, plan_scan, plan_to, decision_scan, done_scan, refused_scan, enacted_scan, scan_of}
use Rattle.scan.specs.Queued.{in_order, queued}
use Rattle.scan.proofs.Basics.{never, decide, and_true, true_and, all-at, all-of, line-pad, length-pad}
use Rattle.scan.proofs.Places.{tasks-at, tasks-length}
use Rattle.scan.proofs.Order.{AllAfter, Sorted, InOrder}
use Rattle.scan.proofs.Alike.{Alike, in_order_lem, line-order, head-chosen}
use Rattle.scan.proofs.Flight.{Flown, AlikeInFlight, task-there, depart-alike, enters-alike}

-- who bears a number that is borne
find-bearer : (n : ℕ) (xs : List Entry) → 0 < sum_of (λ (x : Entry). one (eqb n x.arrival)) xs → (i : ℕ) × ((get_or xs i no_entry).arrival ≡ n)
unfolding sum_of
find-bearer n [] h = absurd (omega arith)
find-bearer n (x ∷ xs) h = decide (eqb n x.arrival)
    (λ e. (0, sym (eqb-true n x.arrival e)))
    (λ e. let r = find-bearer n xs (omega (arith, h, ap one e)) in (suc r.0, r.1))

-- ---- the check of the numbers decides them
module _ (e : Scanned) where
  abbrev es : List Entry
  es = e.entries

  abbrev test : Entry → Bool
  test x = arrival_right e.last es x

  pub arrivals-get : arrivals_right e ≡ true → Arrivals e
  unfolding arrivals_right entry_at
  arrivals-get p =
      let q = and_true (leb e.last most_arrivals) _ p in
      let each : (i : ℕ) → test (get_or es i no_entry) ≡ true = all-at test no_entry refl es q.1 in
      record {
        last = leb-true e.last most_arrivals q.0;
        some = some-get each;
        given = given-get each;
        once = once-get each;
        others = others_get each;
      }
    where
      of-ready : (x : Entry) → test x ≡ true → is_ready x ≡ true → (0 < x.arrival) × (x.arrival ≤ e.last) × (count_of (is_bearer x.arrival) es ≤ 1)
      of-ready x t r =
          let u : (ltb 0 x.arrival and leb x.arrival e.last and leb (count_of (is_bearer x.arrival) es) 1) ≡ true =
          sym (ap (λ (b : Bool). cond b (ltb 0 x.arrival and leb x.arrival e.last and leb (count_of (is_bearer x.arrival) es) 1) (eqb x.arrival 0)) r) ∙ t in
          let v = and_true (ltb 0 x.arrival) _ u in
          let w = and_true (leb x.arrival e.last) _ v.1 in
          (ltb-true 0 x.arrival v.0, leb-true x.arrival e.last w.0, leb-true _ 1 w.1)

      of_other : (x : Entry) → test x ≡ true → is_ready x ≡ false → x.arrival ≡ 0
      of_other x t r = eqb-true x.arrival 0
          (sym (ap (λ (b : Bool). cond b (ltb 0 x.arrival and leb x.arrival e.last and leb (count_of (is_bearer x.arrival) es) 1) (eqb x.arrival 0)) r) ∙ t)

      some-get : ((i : ℕ) → test (get_or es i no_entry) ≡ true) → (k : ℕ) → IsReady es k → 0 < arrival_in es k
      some-get h zero r = never r
      some-get h (suc i) r = (of-ready (get_or es i no_entry) (h i) r).0

      given-get : ((i : ℕ) → test (get_or es i no_entry) ≡ true) → (k : ℕ) → arrival_in es k ≤ e.last
      given-get h zero = zero-le
      given-get h (suc i) = decide (is_ready (get_or es i no_entry))
          (λ r. (of-ready (get_or es i no_entry) (h i) r).1) (λ r. omega (arith, of_other (get_or es i no_entry) (h i) r))

      once-get : ((i : ℕ) → test (get_or es i no_entry) ≡ true) → (n : ℕ) → 0 < n → count_of (is_bearer n) es ≤ 1
      once-get h n g = decide (ltb 0 (count_of (is_bearer n) es))
          (λ z. let r = find-bearer n es (ltb-true 0 (count_of (is_bearer n) es) z) in
          decide (is_ready (get_or es r.0 no_entry))
          (λ y. subst (λ (m : ℕ). count_of (is_bearer m) es ≤ 1) r.1 (of-ready (get_or es r.0 no_entry) (h r.0) y).2)
          (λ y. absurd (omega (arith, of_other (get_or es r.0 no_entry) (h r.0) y, r.1, g))))
          (λ z. omega (arith, ltb-false 0 (count_of (is_bearer n) es) z))

      others_get : ((i : ℕ) → test (get_or es i no_entry) ≡ true) → (k : ℕ) → is_ready (entry_at es k) ≡ false → arrival_in es k ≡ 0
      others_get h zero r = refl
      others_get h (suc i) r = of_other (get_or es i no_entry) (h i) r

  pub arrivals_make : Arrivals e → arrivals_right e ≡ true
  unfolding arrivals_right entry_at
  arrivals_make a = true_and (leb e.last most_arrivals) _ (le-leb e.last most_arrivals a.last) (all-of test no_entry es (λ i. decide (is_ready (get_or es i no_entry))
      (λ r. ready_make (get_or es i no_entry) r (a.some (suc i) r) (a.given (suc i)) (a.once _ (a.some (suc i) r)))
      (λ r. other_make (get_or es i no_entry) r (a.others (suc i) r))))
    where
      ready_make : (x : Entry) → is_ready x ≡ true → 0 < x.arrival → x.arrival ≤ e.last → count_of (is_bearer x.arrival) es ≤ 1 → test x ≡ true
      ready_make x r p q o = rw (r, lt-ltb 0 x.arrival p, le-leb x.arrival e.last q, le-leb (count_of (is_bearer x.arrival) es) 1 o) refl

      other_make : (x : Entry) → is_ready x ≡ false → x.arrival ≡ 0 → test x ≡ true
      other_make x r z = rw (r, eq-eqb x.arrival 0 z) refl

-- ---- the table that it stands for
pub count-items : (ts : List Task) (k : ℕ) (r : List TaskNo) → count k (items ts r) ≡ times_in k r
unfolding items count sum_of
count-items ts k [] = refl
count-items ts k (j ∷ js) = omega (arith, count-items ts k js)

module _ (es : List Entry) where
  low-items : (x : Entry) (r : List TaskNo) → AllAfter es x r → AllLe x.task.priority (items (tasks_in es) r)
  unfolding items
  low-items x [] a = tt
  low-items x (j ∷ js) a = (rw (tasks-at es j.0) a.0.high, low-items x js a.1)

  desc_items : (r : List TaskNo) → Sorted es r → Desc (items (tasks_in es) r)
  unfolding items
  desc_items [] s = tt
  desc_items (j ∷ js) s = (rw (tasks-at es j.0) (low-items (entry_at es j.0) js s.0), desc_items js s.1)

  line_of : (r : List TaskNo) → InOrder es r → Line states.is_ready (tasks_in es) r
  line_of r o = record {
    exact = λ k. count-items (tasks_in es) k r ∙ o.exact k ∙ ap (λ (x : Task). is ready x.state) (sym (tasks-at es k));
    sorted = desc_items r o.sorted;
  }

order-short : (n : ℕ) (es : List Entry) → length (order_from n es) ≤ n
unfolding order_from
order-short zero es = zero-le
order-short (suc n) es = decide (chosen es).found (λ f. rw f (omega (arith, order-short n (set es (chosen es).at no_entry)))) (λ f. rw f zero-le)

-- sixteen entries, by the rules
pub sized : (e : Scanned) → all_but_queue (tasks_in e.entries) e.rest ≡ true → length e.entries ≡ 16
unfolding all_but_queue numbers_right
sized e b =
    let ts = tasks_in e.entries in
    let a = and_true (numbers_right ts e.rest) _ b in
    let c = and_true (sizes_right ts e.rest) _ a.0 in
    let d = and_true (eqb (length ts) most_tasks) _ c.0 in
    sym (tasks-length e.entries) ∙ eqb-true (length ts) most_tasks d.0

pub queued-alike : (e : Scanned) → Arrivals e → length e.entries ≡ 16 → Alike e (queued e)
unfolding queued
queued-alike e a l = record {
  tasks = refl;
  rest = refl;
  size = l;
  numbers = a;
  order = rw (line-pad nobody 16 (order_of e.entries)) (in_order_lem e a l);
}

pub formed : (e : Scanned) → SoundScan e → WellFormed (queued e)
unfolding queued
formed e s =
    let l = sized e s.rules in
    let o : List TaskNo = order_of e.entries in
    let short : length o ≤ 16 = omega (arith, order-short (length e.entries) e.entries, l) in
    let p : take (length o) (pad 16 nobody o) ≡ o = line-pad nobody 16 o in
    executive.formed-by (queued e) s.rules (length-pad nobody 16 o short) short
    (record { exactly = rw p (line_of e.entries o (in_order_lem e s.arrivals l)); tidy = ap (pad 16 nobody) (sym p) })
    (ap (λ (r : List TaskNo). levels_of (items (tasks_in e.entries) r)) (sym p))

pub sound-of : (e : Scanned) → Arrivals e → WellFormed (queued e) → SoundScan e
unfolding queued is_well_formed
sound-of e a w = record { rules = (and_true (queue_right (queued e)) _ (((executive.decided).iff (queued e)).1 w)).1; arrivals = a }

-- ---- tables that are alike: the one stands for the other
pub alike_is : (e : Scanned) (t : Table) → Alike e t → WellFormed t → t ≡ queued e
unfolding queued
alike_is e t a w =
    let o = line-order e t a in
    let q : t.queue ≡ pad most_tasks nobody (order_of e.entries) = w.queue.tidy ∙ ap (pad most_tasks nobody) o in
    let n : t.ready ≡ length (order_of e.entries) = sym (length-take-le t.ready t.queue (omega (arith, w.numbers.ready, w.numbers.sizes.queue))) ∙ ap length o in
    let ts : t.tasks ≡ tasks_in e.entries = sym a.tasks in
    let r : t.rest ≡ e.rest = sym a.rest in
    let v : t.levels ≡ levels_of (in_order e) = (executive.lamp_law).bits t w ∙ (λ i. levels_of (items (ts i) (o i))) in
    λ i. record { tasks = ts i; queue = q i; ready = n i; levels = v i; rest = r i }

-- ---- a plan
pub out-tasks : (o : Out) (t : Table) → (depart o t).tasks ≡ out_tasks o t.tasks (head_of (line t)).0
unfolding depart departed
out-tasks stays t = refl
out-tasks (leaves f) t = refl

joins_in_flight : (js : List Join) (v : Flown) → (enter_all_in_flight js v).table ≡ joins js v.table
unfolding joins join enter_all_in_flight enter_in_flight
joins_in_flight [] v = refl
joins_in_flight (j ∷ js) v = joins_in_flight js _

plan-table : (p : Plan) (t : Table) → apply p t ≡ (apply_in_flight p t).table
unfolding apply apply_in_flight
plan-table p t = ap (λ (u : Table). relit (with_rest p.rest u)) (sym (joins_in_flight p.ins (begin (depart p.out t))))

pub plan-alike : (e : Scanned) (t : Table) (p : Plan) → Alike e t → executive.Moves p t → Alike (apply_scan p e).table (apply_in_flight p t).table × ((apply_scan p e).walked ≡ (apply_in_flight p t).walked)
unfolding apply_scan apply_in_flight
plan-alike e t p a m =
    let f : AlikeInFlight (enter_all_scan p.ins (begin_scan (depart_scan p.out e))) (enter_all_in_flight p.ins (begin (depart p.out t))) =
    enters-alike p.ins (begin_scan (depart_scan p.out e)) (begin (depart p.out t)) (record { table = depart-alike e t a p.out m.leaving; walked = refl })
    (rw (out-tasks p.out t) m.entering) in
    let g = f.table in
    let n = g.numbers in (
      record {
        tasks = g.tasks;
        rest = refl;
        size = g.size;
        numbers = record { last = n.last; some = n.some; given = n.given; once = n.once; others = n.others };
        order = g.order;
      },
      f.walked,
    )

-- ---- a step
module _ (e : Scanned) (t : Table) (a : Alike e t) where
  same_answer : (n : ℕ) (m : Marks) (w : ℕ) → answer_scan n m w e ≡ answer_of n m w t
  same_answer n m w =
      let c : chosen_no e.entries ≡ caller t = sym (head-chosen e t a) in
      let g : (entry_at e.entries (chosen_no e.entries).0).task.argument ≡ (task_at t.tasks (caller t).0).argument =
      ap (λ (x : Task). x.argument) (ap (λ (k : TaskNo). (entry_at e.entries k.0).task) c ∙ task-there e t a (caller t).0) in
      λ i. answer_by n m w (c i) (g i)

  pub same_decision : (s : List ℕ) → decision_scan e s ≡ decision_for t.tasks t.rest (caller t) s
  same_decision s = λ i. decision_for (a.tasks i) (a.rest i) (sym (head-chosen e t a) i) s

  pub same-plan : (d : Deed) → plan_scan d e ≡ meant d t
  unfolding meant
  same-plan d = λ i. meant d (with_tasks (a.tasks i) (a.rest i))

pub record Same (o : Scan) (u : Outcome) : Type 0 where
  pub answer : o.answer ≡ u.answer
  pub table : Alike o.table u.table

refused-same : (e : Scanned) (t : Table) → Alike e t → (n : ℕ) → Same (refused_scan e n) (refused t n)
unfolding refused_scan refused
refused-same e t a n = decide (eqb n 1)
    (λ z. rw z (record { answer = refl; table = a }))
    (λ z. rw z (record { answer = same_answer e t a n (marks false (has_v n) false) 0; table = a }))

done-same : (e : Scanned) (t : Table) (d : Decision) → Alike e t → executive.Moves (meant d.deed t) t → Same (done_scan e d) (done t d)
unfolding done_scan done
done-same e t d a m =
    let p = meant d.deed t in
    let f = plan-alike e t p a m in
    rw (same-plan e t a d.deed, plan-table p t)
    (record { answer = same_answer (apply_scan p e).table (apply_in_flight p t).table f.0 0 d.marks (apply_scan p e).walked ∙ ap (λ (w : ℕ). answer_of 0 d.marks w (apply_in_flight p t).table) f.1; table = f.0 })

pub step_same : (e : Scanned) (t : Table) (s : List ℕ) → Alike e t → WellFormed t → Bytes s → Same (scan_of e s) (step_of t s)
unfolding scan_of enacted_scan enacted
step_same e t s a w b =
    let d = decision_for t.tasks t.rest (caller t) s in
    rw ((executive.by_decision).step t s, executive.queue-right t s w, arrivals_make e a.numbers, same_decision e t a s)
    (decide (eqb d.number 0)
    (λ z. rw z (done-same e t d a (executive.moves t s w (eqb-true d.number 0 z) b)))
    (λ z. rw z (refused-same e t a d.number)))

-- ---- the check decides the rules
module _ (e : Scanned) where
  pub sound-get : is_sound e ≡ true → SoundScan e
  unfolding is_sound
  sound-get h = let p = and_true (arrivals_right e) _ h in record { rules = p.1; arrivals = arrivals-get e p.0 }

  pub sound_make : SoundScan e → is_sound e ≡ true
  unfolding is_sound
  sound_make s = true_and (arrivals_right e) _ (arrivals_make e s.arrivals) s.rules

  pub checked_right : is_sound e ≡ true → Checked e 0
  checked_right h = record { right = (λ z. sound-get h, λ s. refl); wrong = (λ z. absurd (omega arith), λ n. absurd (n (sound-get h))) }

  pub checked_wrong : is_sound e ≡ false → Checked e 1
  checked_wrong h = record {
    right = (λ z. absurd (omega arith), λ s. never (sym h ∙ sound_make s));
    wrong = (λ z s. never (sym h ∙ sound_make s), λ n. refl);
  }

-- where a rule is broken the decision is 1
pub decision_broken : (e : Scanned) (s : List ℕ) → all_but_queue (tasks_in e.entries) e.rest ≡ false → decision_scan e s ≡ refusing 1
unfolding decision_for
decision_broken e s y = rw y refl

-- ---- for the code of the step: what it decided, and that it can be done
module _ (e : Scanned) (s : List ℕ) where
  pub step-broken : arrivals_right e ≡ false → refused_scan e 1 ≡ scan_of e s
  unfolding scan_of
  step-broken h = rw h refl

  module _ (h : arrivals_right e ≡ true) (d : Decision) (q : d ≡ decision_scan e s) where
    pub step-refuses : d.number ≢ 0 → refused_scan e d.number ≡ scan_of e s
    unfolding scan_of enacted_scan
    step-refuses z = rw (h, ← q, ne_eqb d.number 0 z) refl

    pub step_does : d.number ≡ 0 → done_scan e d ≡ scan_of e s
    unfolding scan_of enacted_scan
    step_does z = rw (h, ← q, eq-eqb d.number 0 z) refl

    rules_hold : d.number ≡ 0 → all_but_queue (tasks_in e.entries) e.rest ≡ true
    unfolding decision_for
    rules_hold z = decide (all_but_queue (tasks_in e.entries) e.rest) (λ y. y)
        (λ y. absurd (omega (arith, z, ap (λ (x : Decision). x.number) q, ap (λ (b : Bool). (cond {A = Decision} (b and caller_right (tasks_in e.entries) (chosen_no e.entries)) (decision_in (tasks_in e.entries) e.rest (chosen_no e.entries) s) (refusing 1)).number) y)))

    pub accepted-sound : d.number ≡ 0 → SoundScan e
    accepted-sound z = record { rules = rules_hold z; arrivals = arrivals-get e h }

    pub executable : d.number ≡ 0 → Doable d.deed (queued e)
    executable z =
        let so = accepted-sound z in
        let p : decision_scan e s ≡ decision_for (queued e).tasks (queued e).rest (caller (queued e)) s = same_decision e (queued e) (queued-alike e so.arrivals (sized e so.rules)) s in
        rw (q, p) (executive.can_be_done (queued e) s (formed e so) (sym (ap (λ (x : Decision). x.number) (q ∙ p)) ∙ z))

    pub all_listed : d.number ≡ 0 → d.deed.entrants.count ≤ 16
    all_listed z = omega (arith, (executable z).room)

    -- the rest that came with the decision is the plan's
    pub plan-to : (r : Rest) → r ≡ rest_after e.rest d → d.number ≡ 0 → plan_to d.deed r e ≡ plan_scan d.deed e
    unfolding meant
    plan-to r p z = ap (λ (x : Rest). plan_to d.deed x e) (p ∙ rw (eq-eqb d.number 0 z) refl)
