-- What an array that is made by a closure holds, and what a comparison of two slices tells, in the words of the
-- definitions.
use Prim.Native.Nat.{ℕ, zero, suc, ◌+◌}
use mathlib.Core.Path.{◌≡◌, refl, ap, subst, ◌∙◌}
use mathlib.Core.Bool.{Bool, true, false, cond, ◌&&◌}
use mathlib.Core.List.{List, [], ◌∷◌}
use native.Mathlib.Omega.{arith}
use native.Mathlib.Numerals.{add-one}
use lib.Dec.{eqb}
use lib.ListN.{length, drop, drop_of_length-le}
use lib.Pointwise.{pointwise}
use lib.Seq.{drop-cons}
use denote.Param.Members.{Mut, Called}
use Rattle.std.specs.Array.{IsFromFnResultFrom, IsFromFnResult}
use Rattle.image.specs.Blocks.{blocks, same}

-- an array that is made by a closure that changes nothing
module _ {F B : Type 0} (g : Mut F (ℕ × Unit {0}) B) (h : ℕ → B) (f : F)
    (step : (i : ℕ) (y : B) (q : F) → Called g f (i, tt) y q → (y ≡ h i) × (q ≡ f)) (ys : List B) where
  go : (i k : ℕ) → i + k ≡ length ys → IsFromFnResultFrom g f ys i k → drop i ys ≡ blocks h 1 k i
  unfolding blocks
  go i zero a m = drop_of_length-le ys {i = i} (omega arith)
  go i (suc k) a (q, y, ey, c, rest) =
      let s = step i y q c in
      let r = go (i + 1) k (omega arith) (subst (λ (p : F). IsFromFnResultFrom g p ys (i + 1) k) s.1 rest) in
      drop-cons ys i y (omega arith) ∙ rw (← add-one i) (λ j. (ey.0 ∙ s.0) j ∷ r j)

  pub from_fn_blocks : (n : ℕ) → IsFromFnResult g f ys n → ys ≡ blocks h 1 n 0
  from_fn_blocks n m = go 0 n (omega (arith, m.long)) m.each

-- two runs of bytes that are compared
pub pointwise-same : (xs ys : List ℕ) → pointwise eqb xs ys ≡ same xs ys
unfolding same
pointwise-same [] [] = refl
pointwise-same [] (y ∷ ys) = refl
pointwise-same (x ∷ xs) [] = refl
pointwise-same (x ∷ xs) (y ∷ ys) = both (eqb x y) (pointwise eqb xs ys) ∙ ap (λ b. cond (eqb x y) b false) (pointwise-same xs ys)
  where
    both : (a b : Bool) → (a && b) ≡ cond a b false
    both true b = refl
    both false b = refl
