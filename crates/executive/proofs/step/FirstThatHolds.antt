-- Demand 1: the answer's number is that of the first refusal whose condition holds, and a refusal changes nothing.
use mathlib.Core.Path.{◌≡◌, refl, sym, ◌∙◌}
use mathlib.Core.Logic.{◌↔◌, ◌≢◌}
use mathlib.Core.Bool.{Bool, true, false, not, cond}
use mathlib.Core.List.{List, [], ◌∷◌, map, tail}
use Prim.Native.Nat.{ℕ}
use native.Mathlib.Omega.{arith}
use borrow.Author.Tests.{eqb-true, ne_eqb}
use lib.Dec.{eqb}
use Rattle.records.specs.Firsts.{Refusal, first_of, Decides, Never}
use Rattle.records.specs.declared.Call.{Call}
use Rattle.records.proofs.Assured.{promises}
use Rattle.executive.specs.declared.Table.{Table}
use Rattle.executive.specs.declared.Outcome.{Outcome}
use Rattle.executive.specs.Plans.{caller}
use Rattle.executive.specs.WellFormed.{WellFormed}
use Rattle.executive.specs.Check.{is_well_formed}
use Rattle.executive.specs.Refusals.{call_in, refusals}
use Rattle.executive.specs.Sheet.{marks}
use Rattle.executive.specs.Step.{no_table, answer_of, has_v, accepted, refused, outcome_of, step_of}
use Rattle.executive.proofs.Lists.Tests.{false_not_true}
use Rattle.executive.proofs.refusals.NothingRefuses.{first-none}
use Rattle.executive.proofs.check.Decides.{well_formed-iff}
use Rattle.executive.proofs.step.StepIsPlan.{refused-table}

-- ---- the answer's number
pub number_is : (t : Table) (n : ℕ) (c : Call) → (outcome_of t n c).answer.number ≡ n
unfolding accepted refused
number_is t n c = go (eqb n 0) refl (eqb n 1) refl
  where
    go : (a : Bool) → eqb n 0 ≡ a → (b : Bool) → eqb n 1 ≡ b
        → (cond a (accepted t c) (cond {A = Outcome} b
        (record { answer = no_table; table = t })
        (record { answer = answer_of n (marks false (has_v n) false) 0 t; table = t }))).answer.number ≡ n
    go true e b f = sym (eqb-true n 0 e)
    go false e true f = sym (eqb-true n 1 f)
    go false e false f = refl

numbers : (t : Table) (s : List ℕ) → Never 0 (refusals t s)
unfolding refusals
numbers t s =
    (λ e. omega arith, (λ e. omega arith, (λ e. omega arith, (λ e. omega arith, (λ e. omega arith, (λ e. omega arith, (λ e. omega arith, (λ e. omega arith, (λ e. omega arith, (λ e. omega arith, (λ e. omega arith, (λ e. omega arith, (λ e. omega arith, (λ e. omega arith, tt))))))))))))))

pub step-number : (t : Table) (s : List ℕ) → (step_of t s).answer.number ≡ first_of (refusals t s)
unfolding step_of
step-number t s = number_is t (first_of (refusals t s)) (call_in s)

pub number-decided : (t : Table) (s : List ℕ) → Decides (refusals t s) (step_of t s).answer.number
unfolding step_of
number-decided t s = rw (number_is t (first_of (refusals t s)) (call_in s)) (promises.first-decides (refusals t s) (numbers t s))

-- accepted: no condition holds, and the table is well formed
pub allowed : (t : Table) (s : List ℕ) → (step_of t s).answer.number ≡ 0 → first_of (refusals t s) ≡ 0
allowed t s e = sym (step-number t s) ∙ e

pub allowed-formed : (t : Table) (s : List ℕ) → (step_of t s).answer.number ≡ 0 → WellFormed t
unfolding refusals
allowed-formed t s e = (well_formed-iff t).0 (holds_so (is_well_formed t) (first-none 1 (not (is_well_formed t)) _ (omega arith) (allowed t s e)).0)
  where
    holds_so : (b : Bool) → not b ≡ false → b ≡ true
    holds_so true f = refl
    holds_so false f = false_not_true (sym f)

pub order : (t : Table) (s : List ℕ) → map (λ (r : Refusal). r.number) (refusals t s) ≡ 1 ∷ 3 ∷ 4 ∷ 3 ∷ 5 ∷ 6 ∷ 13 ∷ 14 ∷ 15 ∷ 7 ∷ 9 ∷ 8 ∷ 16 ∷ 10 ∷ []
unfolding refusals
order t s = refl

outcome_keeps : (t : Table) (n : ℕ) (c : Call) → n ≢ 0 → (outcome_of t n c).table ≡ t
outcome_keeps t n c z = rw (ne_eqb n 0 z) (refused-table t n)

pub refusal-keeps : (t : Table) (s : List ℕ) → (step_of t s).answer.number ≢ 0 → (step_of t s).table ≡ t
unfolding step_of
refusal-keeps t s z = outcome_keeps t (first_of (refusals t s)) (call_in s) (λ e. z (number_is t (first_of (refusals t s)) (call_in s) ∙ e))

-- ---- the active task that is answered is the table's, unless the table is not well formed
active-is : (t : Table) (n : ℕ) (c : Call) → n ≢ 1 → (outcome_of t n c).answer.active ≡ caller (outcome_of t n c).table
unfolding accepted refused
active-is t n c z = rw (ne_eqb n 1 z) (go (eqb n 0))
  where
    go : (b : Bool) → (cond b (accepted t c) (record { answer = answer_of n (marks false (has_v n) false) 0 t; table = t })).answer.active
        ≡ caller (cond b (accepted t c) (record { answer = answer_of n (marks false (has_v n) false) 0 t; table = t })).table
    go true = refl
    go false = refl

not-one : (t : Table) (s : List ℕ) → is_well_formed t ≡ true → first_of (refusals t s) ≢ 1
unfolding refusals first_of
not-one t s w = rw w (promises.first-not 1 (tail (refusals t s)) (λ e. omega arith)
    (λ e. omega arith, (λ e. omega arith, (λ e. omega arith, (λ e. omega arith, (λ e. omega arith, (λ e. omega arith, (λ e. omega arith, (λ e. omega arith, (λ e. omega arith, (λ e. omega arith, (λ e. omega arith, (λ e. omega arith, (λ e. omega arith, tt))))))))))))))

pub answers-active : (t : Table) (s : List ℕ) → is_well_formed t ≡ true → (step_of t s).answer.active ≡ caller (step_of t s).table
unfolding step_of
answers-active t s w = active-is t (first_of (refusals t s)) (call_in s) (not-one t s w)

-- ---- number 1: exactly for a table that is not well formed
one-first : (t : Table) (s : List ℕ) → is_well_formed t ≡ false → first_of (refusals t s) ≡ 1
unfolding refusals first_of
one-first t s w = rw w refl

pub unformed : (t : Table) (s : List ℕ) → ((step_of t s).answer.number ≡ 1) ↔ (WellFormed t → ⊥)
unfolding step_of
unformed t s = (λ e w. not-one t s ((well_formed-iff t).1 w) (sym (number_is t (first_of (refusals t s)) (call_in s)) ∙ e), λ n. number_is t (first_of (refusals t s)) (call_in s) ∙ go (is_well_formed t) refl n)
  where
    go : (b : Bool) → is_well_formed t ≡ b → (WellFormed t → ⊥) → first_of (refusals t s) ≡ 1
    go true e n = absurd (n ((well_formed-iff t).0 e))
    go false e n = one-first t s e
