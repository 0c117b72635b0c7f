-- The next of a list that passes a test: the laws of the search, and of the steps that pass over the others.
use Prim.Native.Nat.{ℕ, zero, suc, ◌+◌, ◌-◌, ◌≤◌, ◌<◌}
use mathlib.Core.Path.{◌≡◌, refl}
use mathlib.Core.Bool.{Bool, true, false}
use mathlib.Core.List.{List}
use native.Mathlib.Omega.{arith}
use native.Mathlib.Numerals.{add-one}
use lib.ListN.{length, drop, get_or, drop_of_length-le}
use lib.Seq.{drop-cons}
use Rattle.executive.specs.Lists.{next_of, each}

-- ---- a search of the list l by the test t; the element at place i has the number i, or another one n
module _ {A : Type 0} (t : A → Bool) (d : A) (l : List A) where
  pub next-hit : (n i : ℕ) → i < length l → t (get_or l i d) ≡ true → next_of t n (drop i l) ≡ n
  unfolding next_of
  next-hit n i h e = rw (drop-cons l i d h, e) refl

  pub next-pass : (n i : ℕ) → i < length l → t (get_or l i d) ≡ false → next_of t n (drop i l) ≡ next_of t (suc n) (drop (suc i) l)
  unfolding next_of
  next-pass n i h e = rw (drop-cons l i d h, e) refl

  pub next-end : (n i : ℕ) → length l ≤ i → next_of t n (drop i l) ≡ n
  unfolding next_of
  next-end n i h = rw (drop_of_length-le l {i = i} h) refl

  -- m are left from place i on; what is found is numbered from n on, and it passes the test unless it is past the last
  pub next-bounds : (m n i : ℕ) → m + i ≡ length l → (n ≤ next_of t n (drop i l)) × (next_of t n (drop i l) ≤ n + m)
  next-bounds zero n i h = rw (next-end n i (omega arith)) (omega arith, omega arith)
  next-bounds (suc m) n i h = go (t (get_or l i d)) refl (next-bounds m (suc n) (suc i) (omega arith))
    where
      go : (b : Bool) → t (get_or l i d) ≡ b → (suc n ≤ next_of t (suc n) (drop (suc i) l)) × (next_of t (suc n) (drop (suc i) l) ≤ suc n + m)
          → (n ≤ next_of t n (drop i l)) × (next_of t n (drop i l) ≤ n + suc m)
      go true e ih = rw (next-hit n i (omega arith) e) (omega arith, omega arith)
      go false e ih = rw (next-pass n i (omega arith) e) (omega (arith, ih.0), omega (arith, ih.1))

  pub next-is : (m n i : ℕ) → m + i ≡ length l → next_of t n (drop i l) < n + m → t (get_or l (i + (next_of t n (drop i l) - n)) d) ≡ true
  next-is zero n i h u = absurd (omega (arith, (next-bounds 0 n i h).0))
  next-is (suc m) n i h u = go (t (get_or l i d)) refl (next-is m (suc n) (suc i) (omega arith))
    where
      x : ℕ
      x = next_of t (suc n) (drop (suc i) l)

      go : (b : Bool) → t (get_or l i d) ≡ b → (x < suc n + m → t (get_or l (suc i + (x - suc n)) d) ≡ true)
          → t (get_or l (i + (next_of t n (drop i l) - n)) d) ≡ true
      go true e ih = let z : i + (n - n) ≡ i = omega arith in rw (next-hit n i (omega arith) e, z) e
      go false e ih =
          let p : next_of t n (drop i l) ≡ x = next-pass n i (omega arith) e in
          let b : suc n ≤ x = (next-bounds m (suc n) (suc i) (omega arith)).0 in
          let z : i + (x - n) ≡ suc i + (x - suc n) = omega arith in
          rw (p, z) (ih (omega arith))

  -- a step for each number, where the step does nothing at those that fail the test
  module _ {B : Type 0} (f : B → ℕ → B) (a : B) (still : (i : ℕ) → t (get_or l i d) ≡ false → f a i ≡ a) where
    pub each_next : (m i : ℕ) → m + i ≡ length l → each f m i a ≡ each f (length l - next_of t i (drop i l)) (next_of t i (drop i l)) a
    unfolding each
    each_next zero i h = let z : length l - i ≡ 0 = omega arith in rw (next-end i i (omega arith), z) refl
    each_next (suc m) i h = go (t (get_or l i d)) refl (each_next m (suc i) (omega arith))
      where
        go : (b : Bool) → t (get_or l i d) ≡ b
            → each f m (suc i) a ≡ each f (length l - next_of t (suc i) (drop (suc i) l)) (next_of t (suc i) (drop (suc i) l)) a
            → each f m (i + 1) (f a i) ≡ each f (length l - next_of t i (drop i l)) (next_of t i (drop i l)) a
        go true e ih = let z : length l - i ≡ suc m = omega arith in rw (next-hit i i (omega arith) e, z) refl
        go false e ih = rw (next-pass i i (omega arith) e, still i e, add-one) ih
