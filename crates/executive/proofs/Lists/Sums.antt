-- Sums over lists, and what a store, one more and one fewer do to them.
use mathlib.Core.Path.{◌≡◌}
use mathlib.Core.List.{List, [], ◌∷◌, ◌++◌}
use Prim.Native.Nat.{ℕ, zero, suc, ◌+◌, ◌<◌}
use native.Mathlib.Omega.{arith}
use lib.ListN.{length, get_or, set}
use Rattle.executive.specs.Lists.{sum_of}

pub sum-set : {A : Type 0} (f : A → ℕ) (l : List A) (i : ℕ) (v d : A) → i < length l → sum_of f (set l i v) + f (get_or l i d) ≡ sum_of f l + f v
unfolding sum_of
sum-set f [] i v d h = omega arith
sum-set f (x ∷ xs) zero v d h = omega arith
sum-set f (x ∷ xs) (suc i) v d h = omega (arith, sum-set f xs i v d (omega arith))

pub sum-snoc : {A : Type 0} (f : A → ℕ) (l : List A) (v : A) → sum_of f (l ++ (v ∷ [])) ≡ sum_of f l + f v
unfolding sum_of
sum-snoc f [] v = omega arith
sum-snoc f (x ∷ xs) v = omega (arith, sum-snoc f xs v)

pub sum-append : {A : Type 0} (f : A → ℕ) (l m : List A) → sum_of f (l ++ m) ≡ sum_of f l + sum_of f m
unfolding sum_of
sum-append f [] m = omega arith
sum-append f (x ∷ xs) m = omega (arith, sum-append f xs m)

-- a fact of each element after a store
pub set_all : {A : Type 0} (P : ℕ → A → Type 0) (l : List A) (j : ℕ) (v d : A) → P j v → ((i : ℕ) → P i (get_or l i d)) → (i : ℕ) → P i (get_or (set l j v) i d)
set_all P [] j v d y x i = x i
set_all P (a ∷ l) zero v d y x zero = y
set_all P (a ∷ l) zero v d y x (suc i) = x (suc i)
set_all P (a ∷ l) (suc j) v d y x zero = x zero
set_all P (a ∷ l) (suc j) v d y x (suc i) = set_all (λ i. P (suc i)) l j v d y (λ i. x (suc i)) i
