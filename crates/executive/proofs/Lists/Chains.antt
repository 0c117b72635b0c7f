-- What a chain over a slice gives, in the words of `specs/Lists`. std says it by its own folds of the same list.
use Prim.Native.Nat.{ℕ, zero, suc, ◌+◌, ◌≤◌, ◌<◌}
use mathlib.Core.Path.{◌≡◌, refl, ap, ◌∙◌}
use mathlib.Core.Bool.{Bool, true, false, not, cond, ◌&&◌}
use mathlib.Core.List.{List, [], ◌∷◌}
use native.Mathlib.Omega.{arith}
use native.Mathlib.Numerals.{add-one}
use lib.ListN.{length, get_or}
use denote.Ref.{Bor}
use denote.Param.Members.{Mut}
use Rattle.std.proofs.iter.Yields.{fronts, nat_range_steps}
use Rattle.std.proofs.lemmas.Iterator.{YieldsList-from_slice, YieldsList-from_range, YieldsList-from_zip, zips}
use Rattle.std.proofs.lemmas.Iterator.Search.{all_from_yields_List}
use Rattle.std.specs.declared.slice.Iter.{Iter}
use Rattle.std.specs.declared.iter.Zip.{Zip}
use Rattle.std.specs.Iterator.Adapters.{zip_first, zip_second}
use Rattle.std.specs.declared.ops.Range.{Range}
use Rattle.std.specs.Fn.{Called}
use Rattle.std.specs.Iterator.{ChecksAll}
use Rattle.std.specs.List.{list_all, range_with_len, zip, count_by, position_or_len}
use Rattle.std.specs.Slice.Iter.{iter_rest}
use Rattle.std.proofs.lemmas.List.Sums.{sum_by-cons}
use Rattle.executive.proofs.Lists.Tests.{byte-is}
use Rattle.executive.specs.Lists.{one, up_to, all_of, sum_of, next_of}

-- ---- a test of each element: `xs.iter().all(|x| test(*x))`
pub all_of-is : {A : Type 0} (f : A → Bool) (xs : List A) → list_all f xs ≡ all_of f xs
unfolding all_of
all_of-is f [] = refl
all_of-is f (x ∷ xs) = go (f x) (all_of-is f xs)
  where
    go : (b : Bool) → list_all f xs ≡ all_of f xs → (b && list_all f xs) ≡ cond b (all_of f xs) false
    go true e = e
    go false e = refl

module _ {A F : Type 0} {g : Mut F (Bor A × Unit {0}) Bool} {s t : Iter A} {f : F} (test : A → Bool) (xs : List A) (r : Bool) where
  pub all_of-slice : ChecksAll fronts g s f r t → iter_rest s ≡ xs
      → ((x : Bor A) (b : Bool) (q : F) → Called g f (x, tt) b q → (q ≡ f) × (b ≡ test x.now)) → r ≡ all_of test xs
  all_of-slice ran e k = all_from_yields_List _ _ _ _ ran (YieldsList-from_slice xs e) k ∙ all_of-is test xs

-- ---- a test at each number from 1 to n: `(0..n).all(|k| test(k + 1))`
-- the first number apart from the others
up_to-first : (f : ℕ → Bool) (n : ℕ) → up_to f (suc n) ≡ cond (f 1) (up_to (λ k. f (suc k)) n) false
unfolding up_to
up_to-first f zero = alone (f 1)
  where
    alone : (b : Bool) → b ≡ cond b true false
    alone true = refl
    alone false = refl
up_to-first f (suc n) = rw (up_to-first f n) (go (f 1))
  where
    go : (b : Bool) → cond (cond b (up_to (λ k. f (suc k)) n) false) (f (suc (suc n))) false ≡ cond b (cond (up_to (λ k. f (suc k)) n) (f (suc (suc n))) false) false
    go true = refl
    go false = refl

pub up_to-is : (f g : ℕ → Bool) (a n : ℕ) → ((i : ℕ) → g (a + i) ≡ f (suc i)) → list_all g (range_with_len a n) ≡ up_to f n
unfolding up_to
up_to-is f g a zero h = refl
up_to-is f g a (suc n) h =
    let z : g a ≡ f 1 = let e : a + 0 ≡ a = omega arith in rw e at (h 0) in
    let r : list_all g (range_with_len (a + 1) n) ≡ up_to (λ k. f (suc k)) n = up_to-is (λ k. f (suc k)) g (a + 1) n (λ i. let e : a + 1 + i ≡ a + suc i = omega arith in rw e (h (suc i))) in
    rw (up_to-first f n, z, r) (go (f 1))
  where
    go : (b : Bool) → (b && up_to (λ k. f (suc k)) n) ≡ cond b (up_to (λ k. f (suc k)) n) false
    go true = refl
    go false = refl

module _ {F : Type 0} {g : Mut F (ℕ × Unit {0}) Bool} {s t : Range ℕ} {f : F} (test : ℕ → Bool) (n : ℕ) (r : Bool) where
  pub up_to-range : ChecksAll nat_range_steps g s f r t → s ≡ record { start = 0; end = n }
      → ((x : ℕ) (b : Bool) (q : F) → Called g f (x, tt) b q → (q ≡ f) × (b ≡ test (x + 1))) → r ≡ up_to test n
  up_to-range ran e k =
      all_from_yields_List (λ x. test (x + 1)) _ _ _ ran (YieldsList-from_range 0 n n e (omega arith)) k
      ∙ up_to-is test (λ x. test (x + 1)) 0 n (λ i. let z : 0 + i + 1 ≡ suc i = omega arith in rw z refl)

-- the same of two lists side by side, of which the first is no longer: `xs.iter().zip(ys).all(|(x, y)| ..)`
pub up_to-zip : {A B : Type 0} (f : A → B → Bool) (g : ℕ → Bool) (d : A) (e : B) (xs : List A) (ys : List B) → length xs ≤ length ys
    → ((i : ℕ) → i < length xs → f (get_or xs i d) (get_or ys i e) ≡ g (suc i)) → list_all (λ (p : A × B). f p.0 p.1) (zip xs ys) ≡ up_to g (length xs)
unfolding up_to
up_to-zip f g d e [] ys l h = refl
up_to-zip f g d e (x ∷ xs) [] l h = absurd (omega arith)
up_to-zip f g d e (x ∷ xs) (y ∷ ys) l h =
    let z : f x y ≡ g 1 = h 0 (omega arith) in
    let r : list_all (λ p. f p.0 p.1) (zip xs ys) ≡ up_to (λ k. g (suc k)) (length xs) = up_to-zip f (λ k. g (suc k)) d e xs ys (omega arith) (λ i n. h (suc i) (omega arith)) in
    rw (up_to-first g (length xs), z, r) (go (g 1))
  where
    go : (b : Bool) → (b && up_to (λ k. g (suc k)) (length xs)) ≡ cond b (up_to (λ k. g (suc k)) (length xs)) false
    go true = refl
    go false = refl

module _ {A B F : Type 0} {g : Mut F ((Bor A × Bor B) × Unit {0}) Bool} {s : Zip (Iter A) (Iter B)} {f : F} (t : Zip (Iter A) (Iter B)) (test : A → B → Bool) (xs : List A) (ys : List B) (r : Bool) where
  pub up_to-zipped : (u : ℕ → Bool) (n : ℕ) (d : A) (e : B) → ChecksAll (zips fronts fronts) g s f r t → iter_rest (zip_first s) ≡ xs → iter_rest (zip_second s) ≡ ys
      → ((x : Bor A × Bor B) (b : Bool) (q : F) → Called g f (x, tt) b q → (q ≡ f) × (b ≡ test x.0.now x.1.now))
      → length xs ≡ n → n ≤ length ys → ((i : ℕ) → i < n → test (get_or xs i d) (get_or ys i e) ≡ u (i + 1)) → r ≡ up_to u n
  up_to-zipped u n d e ran a b k l m h =
      all_from_yields_List (λ (p : A × B). test p.0 p.1) t _ _ ran (YieldsList-from_zip {s = s} (YieldsList-from_slice xs a) (YieldsList-from_slice ys b)) k
      ∙ up_to-zip test u d e xs ys (omega arith) (λ i o. rw add-one at (h i (omega arith)))
      ∙ ap (up_to u) l

-- ---- a count: `xs.iter().filter(|x| test(*x)).count()`
one-is : (b : Bool) → cond b 1 0 ≡ one b
one-is true = refl
one-is false = refl

pub count_of-is : {A : Type 0} (f : A → Bool) (xs : List A) → count_by f xs ≡ sum_of (λ x. one (f x)) xs
unfolding sum_of
count_of-is f [] = refl
count_of-is f (x ∷ xs) = sum_by-cons (λ y. cond (f y) 1 0) x xs ∙ rw (one-is (f x)) (ap (λ (n : ℕ). one (f x) + n) (count_of-is f xs))

-- for a function that compares a count with a test
pub ruleset counts = (count_of-is, byte-is)

-- ---- the first that passes: `position`
pub next_of-is : {A : Type 0} (f : A → Bool) (n : ℕ) (xs : List A) → n + position_or_len f xs ≡ next_of f n xs
unfolding next_of
next_of-is f n [] = omega arith
next_of-is f n (x ∷ xs) = go (f x) (next_of-is f (suc n) xs)
  where
    go : (b : Bool) → suc n + position_or_len f xs ≡ next_of f (suc n) xs → n + cond (not b) (1 + position_or_len f xs) 0 ≡ cond b n (next_of f (suc n) xs)
    go true e = omega arith
    go false e = omega (arith, e)
