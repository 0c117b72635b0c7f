-- Equal blocks that stand one after the other in a row of bytes, and bytes written over a part of a buffer. Nothing
-- here knows of the table.
use Rattle.std.specs.Prelude.{ℕ, zero, suc, ◌+◌, Bool, true, false, cond, List, [], ◌∷◌, ◌++◌, eqb, length, take, drop}
use Prim.{Unit}

-- the blocks of some elements, laid one after the other
unfoldable pub row : {A : Type 0} → (A → List ℕ) → List A → List ℕ
row f [] = []
row f (x ∷ xs) = f x ++ row f xs

-- n elements, the first read at a place and each of the others w places after the one before
unfoldable pub blocks : {A : Type 0} → (ℕ → A) → ℕ → ℕ → ℕ → List A
blocks f w zero at = []
blocks f w (suc n) at = f at ∷ blocks f w n (at + w)

-- what holds of each element
abbrev pub Each : {A : Type 0} → (A → Type 0) → List A → Type 0
Each P [] = Unit {0}
Each P (x ∷ xs) = P x × Each P xs

-- a buffer with some bytes written over it from a place on
unfoldable pub written : List ℕ → ℕ → List ℕ → List ℕ
written o at bs = take at o ++ (bs ++ drop (at + length bs) o)

-- the same bytes, as it is computed
unfoldable pub same : List ℕ → List ℕ → Bool
same [] [] = true
same [] (y ∷ ys) = false
same (x ∷ xs) [] = false
same (x ∷ xs) (y ∷ ys) = cond (eqb x y) (same xs ys) false
