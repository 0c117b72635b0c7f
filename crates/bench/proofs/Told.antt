-- What is told at a place of an input: which case of the definitions holds there.
use Prim.Native.Nat.{ℕ, zero, suc, ◌≤◌, ◌<◌}
use mathlib.Core.Path.{◌≡◌, refl}
use mathlib.Core.List.{List, [], ◌∷◌}
use native.Mathlib.Omega.{arith}
use lib.ListN.{length, get_or, take, length-append}
use lib.Dec.{ltb}
use borrow.Author.Tests.{ne_eqb, lt-ltb, le-ltb, ltb-false}
use Rattle.records.specs.declared.TaskNo.{TaskNo}
use Rattle.executive.specs.Places.{nobody}
use Rattle.executive.specs.Table.{head_of}
use Rattle.bench.specs.Lines.{row, end_of, stop_of}
use Rattle.bench.specs.Listing.{step_length, whole_of, last_of}
use Rattle.text.proofs.Assured.{decide}

-- ---- the bytes that are left
module _ (s : List ℕ) where
  pub whole-none : step_length s ≡ 0 → whole_of s ≡ 0
  unfolding whole_of
  whole-none e = decide (ltb (length s) (step_length s)) (λ h. rw h) (λ h. rw h e)

  pub whole-cut : length s < step_length s → whole_of s ≡ 0
  unfolding whole_of
  whole-cut h = rw (lt-ltb (length s) (step_length s) h)

  pub whole_is : step_length s ≤ length s → step_length s ≡ whole_of s
  unfolding whole_of
  whole_is h = rw (le-ltb (length s) (step_length s) h)

  pub last_end : length s ≡ 0 → last_of s ≡ end_of
  unfolding last_of
  last_end e = rw e

  module _ (h : length s ≡ 0 → ⊥) where
    pub last_unknown : step_length s ≡ 0 → last_of s ≡ stop_of 4
    unfolding last_of
    last_unknown e = rw (ne_eqb (length s) 0 h, e)

    pub last-cut : (step_length s ≡ 0 → ⊥) → last_of s ≡ stop_of 3
    unfolding last_of
    last-cut e = rw (ne_eqb (length s) 0 h, ne_eqb (step_length s) 0 e)

-- a whole step is there
pub whole-fits : (s : List ℕ) → whole_of s ≤ length s
unfolding whole_of
whole-fits s = decide (ltb (length s) (step_length s)) (λ e. rw e (omega arith)) (λ e. rw e (ltb-false (length s) (step_length s) e))

-- the head of a queue that is not empty
pub head-is : (q : List TaskNo) (n : ℕ) → (n ≡ 0 → ⊥) → 0 < length q → head_of (take n q) ≡ get_or q 0 nobody
head-is q zero h g = absurd (h refl)
head-is [] (suc n) h g = absurd (omega arith)
head-is (x ∷ xs) (suc n) h g = refl

-- ---- no line is empty
pub row-some : (ws : List (List ℕ)) → 0 < length (row ws)
row-some [] = omega arith
row-some (w ∷ []) = omega (arith, length-append w (10 ∷ []))
row-some (w ∷ v ∷ ws) = omega (arith, length-append w (32 ∷ row (v ∷ ws)))
