-- Rows: how long one is, what stands at a place, and when it is a given list.
use Prim.Native.Nat.{ℕ, zero, suc, ◌+◌, ◌≤◌, ◌<◌}
use mathlib.Core.Path.{◌≡◌, refl, ap, ◌∙◌}
use mathlib.Core.List.{List}
use native.Mathlib.Omega.{arith}
use lib.ListN.{length, get_or, get_or-eq_default}
use lib.Seq.{ext_get_or}
use Rattle.mender.specs.Rows.{row}

module _ {A : Type 0} (f : ℕ → A) where
  pub row-length : (n i : ℕ) → length (row f n i) ≡ n
  unfolding row
  row-length zero i = refl
  row-length (suc n) i = ap suc (row-length n (suc i))

  row_from : (d : A) (n i j : ℕ) → j < n → get_or (row f n i) j d ≡ f (i + j)
  unfolding row
  row_from d zero i j h = absurd (omega arith)
  row_from d (suc n) i zero h = let z : i ≡ i + 0 = omega arith in ap f z
  row_from d (suc n) i (suc j) h = let z : suc i + j ≡ i + suc j = omega arith in row_from d n (suc i) j (omega arith) ∙ ap f z

  -- what stands at a place, and past the last one
  pub row_at : (d : A) (n j : ℕ) → j < n → get_or (row f n 0) j d ≡ f j
  row_at d n j h = let z : 0 + j ≡ j = omega arith in row_from d n 0 j h ∙ ap f z

  pub row-past : (d : A) (n j : ℕ) → n ≤ j → get_or (row f n 0) j d ≡ d
  row-past d n j h = let l : length (row f n 0) ≡ n = row-length n 0 in get_or-eq_default (row f n 0) d {n = j} (omega arith)

  -- a row of what stands in a list is that list
  pub row_same : (d : A) (xs : List A) → ((j : ℕ) → j < length xs → f j ≡ get_or xs j d) → row f (length xs) 0 ≡ xs
  row_same d xs h =
      ext_get_or d (row f (length xs) 0) xs (row-length (length xs) 0)
      (λ j g. let l : length (row f (length xs) 0) ≡ length xs = row-length (length xs) 0 in row_at d (length xs) j (omega arith) ∙ h j (omega arith))
