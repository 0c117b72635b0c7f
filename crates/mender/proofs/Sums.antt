-- Sums and tests over the first places of a list: one place more, a store at it, a line with free places behind it.
use Prim.Native.Nat.{ℕ, zero, suc, ◌+◌, ◌≤◌, ◌<◌}
use mathlib.Core.Path.{◌≡◌, refl}
use mathlib.Core.Bool.{Bool, true, false, cond}
use mathlib.Core.List.{List, [], ◌∷◌}
use native.Mathlib.Omega.{arith}
use native.Mathlib.Numerals.{add-one}
use lib.ListN.{length, take, set, get_or}
use lib.Seq.{take-suc, take-suc-set}
use Rattle.executive.specs.Lists.{all_of, pad, sum_of}
use Rattle.executive.proofs.Assured.{sum-snoc}

module _ {A : Type 0} (f : A → ℕ) where
  pub sum-next : (d : A) (xs : List A) (i : ℕ) → i < length xs → sum_of f (take (i + 1) xs) ≡ sum_of f (take i xs) + f (get_or xs i d)
  sum-next d xs i h = rw (add-one, take-suc xs i d h) (sum-snoc f (take i xs) (get_or xs i d))

  pub sum-next-set : (xs : List A) (i : ℕ) (v : A) → i < length xs → sum_of f (take (i + 1) (set xs i v)) ≡ sum_of f (take i xs) + f v
  sum-next-set xs i v h = rw (add-one, take-suc-set xs i v h) (sum-snoc f (take i xs) v)

  -- some of the summands are at most all
  pub sum_first : (xs : List A) (i : ℕ) → sum_of f (take i xs) ≤ sum_of f xs
  unfolding sum_of
  sum_first xs zero = omega arith
  sum_first [] (suc i) = omega arith
  sum_first (x ∷ xs) (suc i) = omega (arith, sum_first xs i)

  -- and so is one of them
  pub sum_one : (d : A) (xs : List A) (i : ℕ) → i < length xs → sum_of f (take i xs) + f (get_or xs i d) ≤ sum_of f xs
  sum_one d xs i h = omega (arith, sum-next d xs i h, sum_first xs (i + 1))

-- a test of each of the first n
module _ {A : Type 0} (f : A → Bool) (d : A) where
  pub first_make : (xs : List A) (n : ℕ) → ((j : ℕ) → j < n → j < length xs → f (get_or xs j d) ≡ true) → all_of f (take n xs) ≡ true
  unfolding all_of
  first_make xs zero h = refl
  first_make [] (suc n) h = refl
  first_make (x ∷ xs) (suc n) h = rw (h 0 (omega arith) (omega arith)) (first_make xs n (λ j g l. h (suc j) (omega arith) (omega arith)))

  pub first-get : (xs : List A) (n : ℕ) → all_of f (take n xs) ≡ true → (j : ℕ) → j < n → j < length xs → f (get_or xs j d) ≡ true
  unfolding all_of
  first-get xs zero a j g l = absurd (omega arith)
  first-get [] (suc n) a j g l = absurd (omega arith)
  first-get (x ∷ xs) (suc n) a j g l = go (f x) refl a j g l (first-get xs n)
    where
      go : (b : Bool) → f x ≡ b → cond b (all_of f (take n xs)) false ≡ true → (j : ℕ) → j < suc n → j < suc (length xs)
          → (all_of f (take n xs) ≡ true → (j : ℕ) → j < n → j < length xs → f (get_or xs j d) ≡ true) → f (get_or (x ∷ xs) j d) ≡ true
      go true e a zero g l ih = e
      go true e a (suc j) g l ih = ih a j (omega arith) (omega arith)
      go false e a j g l ih = absurd (let z : ◌≡◌ {A = ℕ} 0 1 = cc in omega arith)

-- past a line every place is free
pub pad-past : {A : Type 0} (d : A) (n : ℕ) (xs : List A) (j : ℕ) → length xs ≤ j → get_or (pad n d xs) j d ≡ d
unfolding pad
pad-past d zero [] j h = refl
pad-past d zero (x ∷ xs) zero h = absurd (omega arith)
pad-past d zero (x ∷ xs) (suc j) h = pad-past d zero xs j (omega arith)
pad-past d (suc n) [] zero h = refl
pad-past d (suc n) [] (suc j) h = pad-past d n [] j (omega arith)
pad-past d (suc n) (x ∷ xs) zero h = absurd (omega arith)
pad-past d (suc n) (x ∷ xs) (suc j) h = pad-past d n xs j (omega arith)

-- the same sum, the same test, where each place has the same
pub sum_same : {A : Type 0} (f : A → ℕ) (d : A) (xs ys : List A) → length xs ≡ length ys → ((j : ℕ) → f (get_or xs j d) ≡ f (get_or ys j d)) → sum_of f xs ≡ sum_of f ys
unfolding sum_of
sum_same f d [] [] l h = refl
sum_same f d [] (y ∷ ys) l h = absurd (omega arith)
sum_same f d (x ∷ xs) [] l h = absurd (omega arith)
sum_same f d (x ∷ xs) (y ∷ ys) l h = omega (arith, h 0, sum_same f d xs ys (omega arith) (λ j. h (suc j)))

pub all_same : {A : Type 0} (f g : A → Bool) (xs : List A) → ((x : A) → f x ≡ g x) → all_of f xs ≡ all_of g xs
unfolding all_of
all_same f g [] h = refl
all_same f g (x ∷ xs) h = rw (h x, all_same f g xs h) refl
