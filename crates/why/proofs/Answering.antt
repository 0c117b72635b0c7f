-- The answer by its three cases, and its numbers.
use Prim.Native.Nat.{ℕ, zero, suc, ◌≤◌, ◌<◌}
use mathlib.Core.Path.{◌≡◌, refl}
use mathlib.Core.Bool.{true, false, ◌||◌}
use native.Mathlib.Omega.{arith}
use borrow.Author.Tests.{eqb-true, eqb-false, ltb-true, ltb-false, lt-ltb, le-ltb, le-leb, lt-leb}
use lib.Dec.{eqb, ltb}
use Rattle.records.specs.declared.TaskNo.{TaskNo}
use Rattle.executive.specs.declared.Table.{Table}
use Rattle.executive.specs.Check.{Checked, is_well_formed}
use Rattle.executive.specs.WellFormed.{WellFormed}
use Rattle.executive.proofs.Assured.{decided}
use Rattle.why.specs.Paths.{refusal, task_path, explained}
use Rattle.why.proofs.Searching.{decide, never}

module _ (t : Table) where
  -- what the check's answer says of its test
  pub formed-by : (r : ℕ) → Checked t r → r ≡ 0 → WellFormed t
  formed-by r c e = c.right.0 e

  pub passes : WellFormed t → is_well_formed t ≡ true
  passes w = (decided.iff t).1 w

  pub fails : (WellFormed t → ⊥) → is_well_formed t ≡ false
  fails n = decide (is_well_formed t) (λ e. absurd (n ((decided.iff t).0 e))) (λ e. e)

  pub ill-by : (r : ℕ) → Checked t r → (r ≡ 0 → ⊥) → WellFormed t → ⊥
  ill-by r c n w = n (c.right.1 w)

module _ (t : Table) (k : TaskNo) where
  pub answer-one : (WellFormed t → ⊥) → explained t k ≡ refusal 1 false
  unfolding explained
  answer-one n = rw (fails t n) refl

  module _ (w : WellFormed t) where
    pub answer-nobody : k.0 ≡ 0 → explained t k ≡ refusal 6 true
    unfolding explained
    answer-nobody e = rw (passes t w, le-ltb 0 k.0 (omega arith)) refl

    pub answer-over : (k.0 ≡ 0 → ⊥) → t.rest.count < k.0 → explained t k ≡ refusal 6 true
    unfolding explained
    answer-over z h = rw (passes t w, lt-ltb 0 k.0 (some k.0 z), lt-leb k.0 t.rest.count h) refl
      where
        some : (n : ℕ) → (n ≡ 0 → ⊥) → 0 < n
        some zero f = absurd (f refl)
        some (suc n) f = omega arith

    pub answer_path : 0 < k.0 → k.0 ≤ t.rest.count → explained t k ≡ task_path 16 t k (refusal 0 false)
    unfolding explained
    answer_path h g = rw (passes t w, lt-ltb 0 k.0 h, le-leb k.0 t.rest.count g) refl

    -- by the test of the task's number
    pub answer-none : (eqb k.0 0 || ltb t.rest.count k.0) ≡ true → explained t k ≡ refusal 6 true
    answer-none h =
        decide (eqb k.0 0) (λ e. answer-nobody (eqb-true k.0 0 e))
        (λ e. let g = rw e at h in answer-over (eqb-false k.0 0 e) (ltb-true t.rest.count k.0 g))

    pub answer-some : (eqb k.0 0 || ltb t.rest.count k.0) ≡ false → explained t k ≡ task_path 16 t k (refusal 0 false)
    answer-some h =
        decide (eqb k.0 0) (λ e. let g = rw e at h in absurd (never g))
        (λ e. let g = rw e at h in answer_path (omega (arith, eqb-false k.0 0 e)) (omega (arith, ltb-false t.rest.count k.0 g)))
