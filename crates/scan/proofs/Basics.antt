-- Small laws of tests, sums and lists, below all else.
use Prim.Native.Nat.{ℕ, zero, suc, ◌≤◌, ◌<◌, zero-le}
use mathlib.Core.Path.{◌≡◌, refl, ap}
use mathlib.Core.Bool.{Bool, true, false, cond}
use mathlib.Core.List.{List, [], ◌∷◌, map}
use native.Mathlib.Omega.{arith}
use lib.ListN.{length, get_or, set}
use Rattle.executive.specs.Lists.{one, sum_of, all_of}
pub use Rattle.executive.proofs.Assured.{eqb_self, eqb_swap, and_true, true_and, sum-set, line-pad, length-pad}

pub never : {A : Type 0} → false ≡ true → A
never e = absurd (let z : ◌≡◌ {A = ℕ} 0 1 = cc in omega arith)

pub decide : {A : Type 0} (b : Bool) → (b ≡ true → A) → (b ≡ false → A) → A
decide true f g = f refl
decide false f g = g refl

pub one-small : (b : Bool) → one b ≤ 1
one-small true = omega arith
one-small false = omega arith

pub one_true : (b : Bool) → 0 < one b → b ≡ true
one_true true h = refl
one_true false h = absurd (omega arith)

pub one_false : (b : Bool) → one b ≡ 0 → b ≡ false
one_false true h = absurd (omega arith)
one_false false h = refl

-- ---- sums
module _ {A : Type 0} (f : A → ℕ) where
  pub sum-at : (l : List A) (i : ℕ) (d : A) → i < length l → f (get_or l i d) ≤ sum_of f l
  unfolding sum_of
  sum-at [] i d h = absurd (omega arith)
  sum-at (x ∷ xs) zero d h = omega arith
  sum-at (x ∷ xs) (suc i) d h = omega (arith, sum-at xs i d (omega arith))

  pub sum-zero : (l : List A) (d : A) → ((i : ℕ) → f (get_or l i d) ≡ 0) → sum_of f l ≡ 0
  unfolding sum_of
  sum-zero [] d h = refl
  sum-zero (x ∷ xs) d h = omega (arith, h 0, sum-zero xs d (λ i. h (suc i)))

  pub sum-most : ((x : A) → f x ≤ 1) → (l : List A) → sum_of f l ≤ length l
  unfolding sum_of
  sum-most h [] = zero-le
  sum-most h (x ∷ xs) = omega (arith, h x, sum-most h xs)

  -- one place that counts for nothing
  pub sum_gap : ((x : A) → f x ≤ 1) → (l : List A) (i : ℕ) (v : A) → f v ≡ 0 → i < length l → suc (sum_of f (set l i v)) ≤ length l
  unfolding sum_of
  sum_gap h [] i v z g = absurd (omega arith)
  sum_gap h (x ∷ xs) zero v z g = omega (arith, z, sum-most h xs)
  sum_gap h (x ∷ xs) (suc i) v z g = omega (arith, h x, sum_gap h xs i v z (omega arith))

module _ {A : Type 0} (f g : A → ℕ) (h : (x : A) → f x ≤ g x) where
  pub sum-le : (l : List A) → sum_of f l ≤ sum_of g l
  unfolding sum_of
  sum-le [] = zero-le
  sum-le (x ∷ xs) = omega (arith, h x, sum-le xs)

  pub sum_lt : (l : List A) (i : ℕ) (d : A) → i < length l → f (get_or l i d) < g (get_or l i d) → sum_of f l < sum_of g l
  unfolding sum_of
  sum_lt [] i d k e = absurd (omega arith)
  sum_lt (x ∷ xs) zero d k e = omega (arith, sum-le xs)
  sum_lt (x ∷ xs) (suc i) d k e = omega (arith, h x, sum_lt xs i d (omega arith) e)

-- ---- a reading of each element
module _ {A B : Type 0} (f : A → B) where
  pub map_at : (l : List A) (i : ℕ) (d : A) → get_or (map f l) i (f d) ≡ f (get_or l i d)
  map_at [] i d = refl
  map_at (x ∷ xs) zero d = refl
  map_at (x ∷ xs) (suc i) d = map_at xs i d

  pub map-set : (l : List A) (i : ℕ) (v : A) → map f (set l i v) ≡ set (map f l) i (f v)
  map-set [] i v = refl
  map-set (x ∷ xs) zero v = refl
  map-set (x ∷ xs) (suc i) v = ap (λ (l : List B). f x ∷ l) (map-set xs i v)

  pub map-long : (l : List A) → length (map f l) ≡ length l
  map-long [] = refl
  map-long (x ∷ xs) = ap suc (map-long xs)

pub map_same : {A B : Type 0} (f g : A → B) → ((x : A) → f x ≡ g x) → (l : List A) → map f l ≡ map g l
map_same f g h [] = refl
map_same f g h (x ∷ xs) = λ i. h x i ∷ map_same f g h xs i

pub map-twice : {A B C : Type 0} (f : A → B) (g : B → C) (l : List A) → map g (map f l) ≡ map (λ (x : A). g (f x)) l
map-twice f g [] = refl
map-twice f g (x ∷ xs) = ap (λ (l : List _). g (f x) ∷ l) (map-twice f g xs)

-- ---- a test of each element
pub all-at : {A : Type 0} (f : A → Bool) (d : A) → f d ≡ true → (l : List A) → all_of f l ≡ true → (i : ℕ) → f (get_or l i d) ≡ true
unfolding all_of
all-at f d z [] e i = z
all-at f d z (x ∷ xs) e i = go (f x) refl e i (λ g. all-at f d z xs g)
  where
    go : (b : Bool) → f x ≡ b → cond b (all_of f xs) false ≡ true → (i : ℕ) → (all_of f xs ≡ true → (j : ℕ) → f (get_or xs j d) ≡ true) → f (get_or (x ∷ xs) i d) ≡ true
    go true h e zero ih = h
    go true h e (suc i) ih = ih e i
    go false h e i ih = never e

pub all-of : {A : Type 0} (f : A → Bool) (d : A) (l : List A) → ((i : ℕ) → f (get_or l i d) ≡ true) → all_of f l ≡ true
unfolding all_of
all-of f d [] h = refl
all-of f d (x ∷ xs) h = rw (h 0) (all-of f d xs (λ i. h (suc i)))
