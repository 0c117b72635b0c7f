-- The path is the steps of waiting from the task asked for, while no task comes twice; its ring is where they come back.
use Prim.Native.Nat.{ℕ, zero, suc, ◌+◌, ◌-◌, ◌≤◌, ◌<◌}
use mathlib.Core.Path.{◌≡◌, refl, sym, ap, ◌∙◌}
use mathlib.Core.Logic.{◌≢◌, ⊎_elim}
use mathlib.Core.Bool.{Bool, true, false}
use mathlib.Core.List.{List}
use native.Mathlib.Omega.{arith}
use native.Mathlib.Numerals.{add-one}
use borrow.Author.Tests.{eqb-true, eqb-false, eq-eqb, ltb-true, ltb-false}
use lib.Dec.{eqb, ltb}
use lib.ListN.{length, get_or, take, length-set, length-replicate}
use lib.Seq.{get_or-take, get_or-set_same, get_or-set_other, length-take-le}
use Rattle.records.specs.declared.TaskNo.{TaskNo}
use Rattle.executive.specs.declared.Table.{Table}
use Rattle.executive.specs.WellFormed.{WellFormed}
use Rattle.why.specs.declared.Step.{Step}
use Rattle.why.specs.declared.Reasons.{Reasons}
use Rattle.why.specs.Causes.{cause_of}
use Rattle.why.specs.Paths.{no_step, refusal, met_at, longer, closed, unmet, by_link, task_path}
use Rattle.why.proofs.Searching.{decide, next-passes, some_next, passes-some}
use Rattle.why.proofs.Onward.{path_ring, path_more}
use Rattle.why.proofs.Holding.{holds_of}
use Rattle.why.proofs.Waiting.{onto, Within, leads}
use Rattle.why.proofs.Walking.{no_more, iter, iter-zero, iter-suc}

module _ (t : Table) (w : WellFormed t) (k₀ : ℕ) where
  -- where the steps of waiting are at a time
  abbrev pub at : ℕ → ℕ
  at i = iter (onto t) i k₀

  -- the first n steps of a path are the steps of waiting, each to another task of the table, and each with its cause
  pub record Trod (p : Reasons) : Type 0 where
    pub size : length p.steps ≡ 16
    pub few : p.length ≤ 16
    pub task : (i : ℕ) → i < p.length → (get_or p.steps i no_step).task.0 ≡ at i
    pub cause : (i : ℕ) → i < p.length → (get_or p.steps i no_step).cause ≡ cause_of t (at i)
    pub within : (i : ℕ) → i < p.length → Within t w (at i)
    pub once : (i j : ℕ) → i < j → j < p.length → at i ≢ at j

  -- the whole path: without a ring it leads to nobody, with one of r steps to where it was r steps before
  pub record Whole (p : Reasons) : Type 0 where
    pub trod : Trod p
    pub some : 0 < p.length
    pub nobody : p.ring ≡ 0 → at p.length ≡ 0
    pub back : 0 < p.ring → (p.ring ≤ p.length) × (at p.length ≡ at (p.length - p.ring))

  -- a path on its way to task k
  pub record Going (p : Reasons) (k : TaskNo) : Type 0 where
    pub trod : Trod p
    pub ring : p.ring ≡ 0
    pub next : k.0 ≡ at p.length
    pub within : Within t w k.0

  module _ (p : Reasons) (k : TaskNo) (g : Going p k) where
    abbrev test : Step → Bool
    test s = eqb k.0 s.task.0

    abbrev xs : List Step
    xs = take p.length p.steps

    abbrev met : ℕ
    met = met_at k.0 p.length p.steps

    long : length xs ≡ p.length
    long = length-take-le p.length p.steps (omega (arith, g.trod.few, g.trod.size))

    -- a task that has been met is where the path was then
    met-there : met < p.length → k.0 ≡ at met
    unfolding met_at
    met-there h =
        let y = next-passes test no_step 0 xs (omega (arith, long)) in
        let z : met - 0 ≡ met = omega arith in
        eqb-true k.0 (get_or xs (met - 0) no_step).task.0 y
        ∙ ap (λ n. (get_or xs n no_step).task.0) z
        ∙ ap (λ (s : Step). s.task.0) (get_or-take p.length p.steps met no_step h) ∙ g.trod.task met h

    -- one that has not is none of those on the path
    met-not : p.length ≤ met → (i : ℕ) → i < p.length → at i ≢ k.0
    unfolding met_at
    met-not h i l e =
        let y : test (get_or xs i no_step) ≡ true =
        eq-eqb k.0 (get_or xs i no_step).task.0
        (sym e ∙ sym (g.trod.task i l) ∙ sym (ap (λ (s : Step). s.task.0) (get_or-take p.length p.steps i no_step l))) in
        omega (arith, long, some_next test no_step 0 xs (passes-some test no_step xs i (omega (arith, long)) y))

    -- the ring is closed
    ring-closed : met < p.length → Whole (closed p met)
    ring-closed h = record {
      trod = record { size = g.trod.size; few = g.trod.few; task = g.trod.task; cause = g.trod.cause; within = g.trod.within; once = g.trod.once };
      some = omega arith;
      nobody = λ z. absurd (omega arith);
      back = λ y. (omega arith, let z : p.length - (p.length - met) ≡ met = omega arith in sym g.next ∙ met-there h ∙ ap at (sym z));
    }

    -- ---- a task that has not been met is the next step
    module _ (new : p.length ≤ met) where
      -- there is room for it: else seventeen tasks would differ
      different : (i j : ℕ) → i < j → j < suc p.length → at i ≢ at j
      different i j h l e =
          decide (ltb j p.length)
          (λ y. g.trod.once i j h (ltb-true j p.length y) e)
          (λ y.
          let z : j ≡ p.length = omega (arith, ltb-false j p.length y) in
          met-not new i (omega arith) (e ∙ ap at z ∙ sym g.next))

      all-within : (i : ℕ) → i < suc p.length → Within t w (at i)
      all-within i h =
          decide (ltb i p.length) (λ y. g.trod.within i (ltb-true i p.length y))
          (λ y.
          let z : i ≡ p.length = omega (arith, ltb-false i p.length y) in
          rw (z, ← g.next) g.within)

      pub room : p.length < 16
      room = omega (arith, no_more at 16 (suc p.length) (λ i h. ((all-within i h).0, omega (arith, (all-within i h).1, w.numbers.count.1))) different)

      abbrev more : Reasons
      more = longer p k (cause_of t k.0)

      step-at : (P : Step → ℕ → Type 0) → P (record { task = k; cause = cause_of t k.0 }) p.length
          → ((i : ℕ) → i < p.length → P (get_or p.steps i no_step) i) → (i : ℕ) → i < p.length + 1 → P (get_or more.steps i no_step) i
      step-at P new old i h =
          decide (eqb i p.length)
          (λ y.
          let e = eqb-true i p.length y in
          rw (e, get_or-set_same p.steps p.length (record { task = k; cause = cause_of t k.0 }) no_step (omega (arith, room, g.trod.size))) new)
          (λ y.
          let e = eqb-false i p.length y in
          rw (get_or-set_other p.steps p.length i (record { task = k; cause = cause_of t k.0 }) no_step e) (old i (below i p.length h e)))
        where
          below : (i n : ℕ) → i < n + 1 → (i ≡ n → ⊥) → i < n
          below i n h e = decide (ltb i n) (λ y. ltb-true i n y) (λ y. absurd (e (omega (arith, ltb-false i n y))))

      more-trod : Trod more
      more-trod = record {
        size = length-set p.steps p.length _ ∙ g.trod.size;
        few = omega (arith, room);
        task = step-at (λ s i. s.task.0 ≡ at i) g.next g.trod.task;
        cause = step-at (λ s i. s.cause ≡ cause_of t (at i)) (ap (cause_of t) g.next) g.trod.cause;
        within = λ i h. all-within i (omega arith);
        once = λ i j h l. different i j h (omega arith);
      }

      next-at : at (p.length + 1) ≡ onto t k.0
      next-at = ap at (add-one p.length) ∙ iter-suc (onto t) p.length k₀ ∙ ap (onto t) (sym g.next)

      -- the path ends here
      pub more-whole : onto t k.0 ≡ 0 → Whole more
      more-whole z = record {
        trod = more-trod;
        some = omega arith;
        nobody = λ y. next-at ∙ z;
        back = λ y. absurd (omega (arith, g.ring));
      }

      -- it goes on
      pub more_going : Within t w (onto t k.0) → Going more (record { 0 = onto t k.0 })
      more_going v = record { trod = more-trod; ring = g.ring; next = sym next-at; within = v }

  -- ---- so a path that is on its way becomes whole
  by-ring : (left : ℕ) (p : Reasons) (k : TaskNo) → Going p k → ltb (met_at k.0 p.length p.steps) p.length ≡ true → Whole (task_path left t k p)
  by-ring left p k g y =
      let h = ltb-true (met_at k.0 p.length p.steps) p.length y in
      rw (path_ring t k p left h) (ring-closed p k g h)

  pub arrives : (left : ℕ) (p : Reasons) (k : TaskNo) → left ≡ unmet p → Going p k → Whole (task_path left t k p)
  arrives zero p k e g =
      decide (ltb (met_at k.0 p.length p.steps) p.length) (λ y. by-ring 0 p k g y)
      (λ y. absurd (omega (arith, room p k g (ltb-false (met_at k.0 p.length p.steps) p.length y))))
  arrives (suc left) p k e g =
      decide (ltb (met_at k.0 p.length p.steps) p.length) (λ y. by-ring (suc left) p k g y)
      (λ y.
      let h = ltb-false (met_at k.0 p.length p.steps) p.length y in
      let on = longer p k (cause_of t k.0) in
      rw (path_more t k p h left)
      (⊎_elim
      (λ l. rw (l.1 (by_link (λ j. task_path left t j on) t) on) (more-whole p k g h l.0))
      (λ l. rw (l.1 (λ j. task_path left t j on) on)
      (arrives left on (record { 0 = onto t k.0 }) (omega (arith, room p k g h)) (more_going p k g h l.0)))
      (leads t w k.0 g.within.0 (cause_of t k.0) (holds_of t w k.0 g.within.0))))

  -- the answer of a task of the table
  pub starts : (k : TaskNo) → k.0 ≡ k₀ → Within t w k₀ → Whole (task_path 16 t k (refusal 0 false))
  starts k e v = arrives 16 (refusal 0 false) k refl (record {
    trod = record {
      size = length-replicate 16 no_step;
      few = omega arith;
      task = λ i h. absurd (omega arith);
      cause = λ i h. absurd (omega arith);
      within = λ i h. absurd (omega arith);
      once = λ i j h l. absurd (omega arith);
    };
    ring = refl;
    next = e ∙ sym (iter-zero (onto t) k₀);
    within = rw e v;
  })
