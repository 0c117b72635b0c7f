-- What is promised holds. Of the modules here the crates above name this one and no other.
use Prim.Native.Nat.{ℕ, suc, ◌+◌, ◌-◌, ◌≤◌, ◌<◌}
use mathlib.Core.Path.{◌≡◌, refl, sym, ap, ◌∙◌}
use mathlib.Core.Logic.{◌≢◌, inl, inr, ⊎_elim}
use mathlib.Core.Bool.{true, false}
use mathlib.Core.List.{List}
use native.Mathlib.Omega.{arith}
use borrow.Author.Tests.{eqb-true, eqb-false, leb-true, leb-false}
use lib.Dec.{eqb, leb}
use lib.ListN.{length}
use lib.Seq.{get_or-take}
use Rattle.records.specs.declared.TaskNo.{TaskNo}
use Rattle.executive.specs.declared.Millis.{Millis}
use Rattle.executive.specs.declared.Table.{Table}
use Rattle.executive.specs.Check.{is_well_formed}
use Rattle.executive.specs.WellFormed.{WellFormed}
use Rattle.executive.specs.Promises.InWords.{NoTask}
use Rattle.executive.proofs.Assured.{decided}
use Rattle.text.proofs.Assured as text
use Rattle.why.specs.declared.Step.{Step}
use Rattle.why.specs.declared.Reasons.{Reasons}
use Rattle.why.specs.Causes.{cause_of, Holds, WaitsOn}
use Rattle.why.specs.Paths.{no_step, refusal, task_path, explained}
use Rattle.why.specs.Texts.{text_of, Tells}
use Rattle.why.specs.Promises.{TaskOf, path_from, step_at, task_on, Ends, Numbers, Promises}
use Rattle.why.proofs.Searching.{decide, never}
use Rattle.why.proofs.Answering.{answer-one, answer-nobody, answer-over, answer_path}
use Rattle.why.proofs.Onward.{path_keeps}
use Rattle.why.proofs.Holding.{nought, holds_of, only}
use Rattle.why.proofs.Waiting.{onto, Within, waits-onto, onto-waits}
use Rattle.why.proofs.Walking.{iter-zero, iter-suc}
use Rattle.why.proofs.Trail.{at, Whole, starts}
use Rattle.why.proofs.Rings.{path_long, path_task, ring-fits, ring-exactly, ring_else}

-- ---- a task of a well-formed table: its answer is a whole path
module _ (t : Table) (k : TaskNo) (o : TaskOf t k.0) where
  abbrev w : WellFormed t
  w = o.formed

  v : Within t w k.0
  v = (o.some, o.within)

  abbrev r : Reasons
  r = explained t k

  whole : Whole t w k.0 r
  whole = rw (answer_path t k w o.some o.within) (starts t w k.0 k refl v)

  abbrev there : ℕ → ℕ
  there i = at t w k.0 i

  long : length (path_from t k) ≡ r.length
  long = path_long t w k.0 v r whole

  task : (i : ℕ) → i < length (path_from t k) → task_on t k i ≡ there i
  task i h = path_task t w k.0 v r whole i (omega (arith, long))

  holds : (i : ℕ) → i < length (path_from t k) → Holds t (task_on t k i) (step_at t k i).cause
  holds i h =
      let l : i < r.length = omega (arith, long) in
      let c : (step_at t k i).cause ≡ cause_of t (there i) =
      ap (λ (s : Step). s.cause) (get_or-take r.length r.steps i no_step l) ∙ whole.trod.cause i l in
      rw (task i h, c) (holds_of t w (there i) (whole.trod.within i l).0)

  first : (0 < length (path_from t k)) × (task_on t k 0 ≡ k.0)
  first = let h : 0 < length (path_from t k) = omega (arith, whole.some, long) in (h, task 0 h ∙ iter-zero (onto t) k.0)

  -- each waits on the next
  waits : (i : ℕ) → suc i ≤ r.length → 0 < there (suc i) → WaitsOn t (there i) (there (suc i))
  waits i h g =
      let e : there (suc i) ≡ onto t (there i) = iter-suc (onto t) i k.0 in
      rw e (onto-waits t w (there i) (whole.trod.within i (omega arith)).0 (rw e at g))

  onward : (i : ℕ) → suc i < length (path_from t k) → WaitsOn t (task_on t k i) (task_on t k (suc i))
  onward i h = rw (task i (omega arith), task (suc i) h) (waits i (omega (arith, long)) (whole.trod.within (suc i) (omega (arith, long))).0)

  once : (i j : ℕ) → i < j → j < length (path_from t k) → task_on t k i ≢ task_on t k j
  once i j h g e = whole.trod.once i j h (omega (arith, long)) (sym (task i (omega arith)) ∙ e ∙ task j g)

  -- the last task, and where it leads
  abbrev n : ℕ
  n = r.length

  last-task : task_on t k (n - 1) ≡ there (n - 1)
  last-task = task (n - 1) (omega (arith, whole.some, long))

  next-of-last : there n ≡ onto t (there (n - 1))
  next-of-last = let z : suc (n - 1) ≡ n = omega (arith, whole.some) in ap there (sym z) ∙ iter-suc (onto t) (n - 1) k.0

  last_within : Within t w (there (n - 1))
  last_within = whole.trod.within (n - 1) (omega (arith, whole.some))

  to-nobody : r.ring ≡ 0 → (j : ℕ) → WaitsOn t (task_on t k (n - 1)) j → ⊥
  to-nobody z j x =
      let y = waits-onto t w (there (n - 1)) last_within.0 j (rw last-task at x) in
      omega (arith, sym (whole.nobody z) ∙ next-of-last ∙ y.0, y.1.0)

  to-ring : 0 < r.ring → WaitsOn t (task_on t k (n - 1)) (task_on t k (n - r.ring))
  to-ring h =
      let b = whole.back h in
      let i : n - r.ring < n = omega (arith, whole.some) in
      let e : onto t (there (n - 1)) ≡ there (n - r.ring) = sym next-of-last ∙ b.1 in
      let g = (whole.trod.within (n - r.ring) i).0 in
      rw (last-task, task (n - r.ring) (omega (arith, long)), ← e) (onto-waits t w (there (n - 1)) last_within.0 (rw (← e) at g))

  ends : Ends t k n r.ring
  ends = record { all = sym long; ring = ring-fits t w k.0 v r whole; nobody = to-nobody; back = to-ring }

-- ---- the numbers, in the three cases
module _ (t : Table) (k : TaskNo) where
  ill : (WellFormed t → ⊥) → Numbers t k (explained t k)
  ill f = rw (answer-one t k f) (record {
    one = (λ e. f, λ g. refl);
    six = (λ e. absurd (omega arith), λ g. absurd (f g.0));
    nought = (λ e. absurd (omega arith), λ g. absurd (f g.formed));
    v = (λ e. absurd (never (sym e)), λ e. absurd (omega arith));
  })

  module _ (w : WellFormed t) where
    -- no task of it
    sixth : NoTask t k → (TaskOf t k.0 → ⊥) → explained t k ≡ refusal 6 true → Numbers t k (explained t k)
    sixth n f e = rw e (record {
      one = (λ y. absurd (omega arith), λ g. absurd (g w));
      six = (λ y. (w, n), λ g. refl);
      nought = (λ y. absurd (omega arith), λ g. absurd (f g));
      v = (λ y. refl, λ y. refl);
    })

    -- a task of it
    module _ (h : 0 < k.0) (g : k.0 ≤ t.rest.count) where
      o : TaskOf t k.0
      o = record { formed = w; some = h; within = g }

      task-numbers : ((explained t k).number ≡ 0) × ((explained t k).v ≡ false) → Numbers t k (explained t k)
      task-numbers e = record {
        one = (λ y. absurd (omega (arith, e.0)), λ f. absurd (f w));
        six = (λ y. absurd (omega (arith, e.0)), λ f. absurd (⊎_elim (λ z. omega arith) (λ z. omega arith) f.1));
        nought = (λ y. o, λ f. e.0);
        v = (λ y. absurd (never (sym y ∙ e.1)), λ y. absurd (omega (arith, e.0)));
      }

  numbers : Numbers t k (explained t k)
  numbers =
      decide (is_well_formed t)
      (λ y.
      let w = (decided.iff t).0 y in
      decide (eqb k.0 0)
      (λ z. let e = eqb-true k.0 0 z in sixth w (inl e) (λ o. omega (arith, o.some)) (answer-nobody t k w e))
      (λ z.
      let e = eqb-false k.0 0 z in
      decide (leb k.0 t.rest.count)
      (λ l.
      let h = nought k.0 e in
      let g = leb-true k.0 t.rest.count l in
      task-numbers w h g (zeros (answer_path t k w h g)))
      (λ l. let g = leb-false k.0 t.rest.count l in sixth w (inr g) (λ o. omega (arith, o.within)) (answer-over t k w e g))))
      (λ y. ill (λ w. never (sym ((decided.iff t).1 w) ∙ y)))
    where
      zeros : explained t k ≡ task_path 16 t k (refusal 0 false) → ((explained t k).number ≡ 0) × ((explained t k).v ≡ false)
      zeros e = rw e (
        path_keeps (λ (p : Reasons). p.number) t 0 (λ p i. refl) (λ p j c. refl) 16 k (refusal 0 false) refl,
        path_keeps (λ (p : Reasons). p.v) t false (λ p i. refl) (λ p j c. refl) 16 k (refusal 0 false) refl,
      )

-- ---- the text is within its buffer
told-within : (r : Reasons) (clock : Millis) (o b : List ℕ) (n : ℕ) → Tells r clock o b n → n ≤ length b
told-within r clock o b n p =
    let s = (text.promises).size o 0 (text_of r clock) b n p in
    decide (leb (0 + length (text_of r clock)) (length o))
    (λ y. omega (arith, s, text.inside (omega arith) ((text.promises).adds o 0 (text_of r clock) b n (leb-true (0 + length (text_of r clock)) (length o) y) p)))
    (λ y. omega (arith, ((text.promises).keeps o 0 (text_of r clock) b n (leb-false (0 + length (text_of r clock)) (length o) y) p).1))

pub promises : Promises
promises = record {
  holds = holds;
  only = λ t k o c h. only t o.formed k o.some c h;
  first = first;
  onward = onward;
  once = once;
  ends = ends;
  ring-exactly = λ t k o j. ring-exactly t o.formed k.0 (o.some, o.within) (explained t k) (whole t k o) j;
  ring_else = λ t k o j. ring_else t o.formed k.0 (o.some, o.within) (explained t k) (whole t k o) j;
  numbers = numbers;
  determined = λ t k x y p q. p ∙ sym q;
  no-table-determined = λ x y p q. p ∙ sym q;
  told-within = told-within;
  told-determined = λ r clock o b c m n p q. (text.promises).determined o 0 (text_of r clock) b c m n p q;
}
