-- Tests: what a comparison says as a fact and as a number, what a conjunction says and what makes it; sums that are 0
-- where every test passes.
use mathlib.Core.Path.{◌≡◌, refl, sym, ap, ◌∙◌}
use mathlib.Core.Bool.{Bool, true, false, not}
use mathlib.Core.List.{List, [], ◌∷◌}
use Prim.Native.Nat.{ℕ, zero, suc, ◌≤◌, ◌<◌}
use native.Mathlib.Omega.{arith}
use mir.Val.{bool_byte}
use lib.Dec.{T, leb, ltb, eqb, leb→le, nleb→lt, ltb→lt, nltb→le, eqb→eq, eqb_refl, eqb-suc-zero}
use Rattle.executive.specs.Lists.{one, sum_of, ◌and◌, all_of}
use mathlib.Core.Logic.{◌≢◌}
use borrow.Author.Tests.{le-leb, le-ltb, ltb-false, leb-true}
use Rattle.executive.proofs.Lists.Loops.{both}

-- ---- tests as numbers
pub So-of_true : (b : Bool) → b ≡ true → T b
So-of_true b e = rw e tt

pub So-not-of_false : (b : Bool) → b ≡ false → T (not b)
So-not-of_false b e = rw e tt

pub false_not_true : {A : Type 0} → false ≡ true → A
false_not_true e = absurd (let z : ◌≡◌ {A = ℕ} 0 1 = cc in omega arith)

-- which way a test went, with the fact that it says
pub data Le (m n : ℕ) : Bool → Type 0 where
  le_yes : m ≤ n → Le m n true
  le-no : n < m → Le m n false

pub leb-is : (m n : ℕ) → Le m n (leb m n)
leb-is m n = go (leb m n) refl
  where
    go : (b : Bool) → leb m n ≡ b → Le m n b
    go true e = le_yes (leb→le m n (So-of_true (leb m n) e))
    go false e = le-no (nleb→lt m n (So-not-of_false (leb m n) e))

pub data Lt (m n : ℕ) : Bool → Type 0 where
  lt_yes : m < n → Lt m n true
  lt_no : n ≤ m → Lt m n false

pub ltb-is : (m n : ℕ) → Lt m n (ltb m n)
ltb-is m n = go (ltb m n) refl
  where
    go : (b : Bool) → ltb m n ≡ b → Lt m n b
    go true e = lt_yes (ltb→lt m n (So-of_true (ltb m n) e))
    go false e = lt_no (nltb→le m n (So-not-of_false (ltb m n) e))

pub one-lt : (m n : ℕ) → m < n → one (ltb m n) ≡ 1
one-lt m n h = go (ltb m n) (ltb-is m n)
  where
    go : (b : Bool) → Lt m n b → one b ≡ 1
    go true r = refl
    go false (lt_no g) = omega arith

pub one_ge : (m n : ℕ) → n ≤ m → one (ltb m n) ≡ 0
one_ge m n h = go (ltb m n) (ltb-is m n)
  where
    go : (b : Bool) → Lt m n b → one b ≡ 0
    go true (lt_yes g) = omega arith
    go false r = refl

pub one-le-leb : (m n : ℕ) → m ≤ n → one (leb m n) ≡ 1
one-le-leb m n h = go (leb m n) (leb-is m n)
  where
    go : (b : Bool) → Le m n b → one b ≡ 1
    go true r = refl
    go false (le-no g) = omega arith

pub one-lt-leb : (m n : ℕ) → n < m → one (leb m n) ≡ 0
one-lt-leb m n h = go (leb m n) (leb-is m n)
  where
    go : (b : Bool) → Le m n b → one b ≡ 0
    go true (le_yes g) = omega arith
    go false r = refl

-- a test as a byte
pub byte-is : (b : Bool) → bool_byte b ≡ one b
byte-is true = refl
byte-is false = refl

pub ruleset bytes = (byte-is)

pub eqb_self : (k : ℕ) → eqb k k ≡ true
eqb_self k = go (eqb k k) (eqb_refl k)
  where
    go : (b : Bool) → T b → b ≡ true
    go true t = refl
    go false t = absurd t

pub not-zero : (k : ℕ) → 0 < k → eqb k 0 ≡ false
not-zero zero h = absurd (omega arith)
not-zero (suc k) h = eqb-suc-zero k

pub eqb_no : (a b : ℕ) → eqb a b ≡ false → a ≢ b
eqb_no a b h e = let g : eqb b b ≡ false = rw e at h in let f : eqb b b ≡ true = eqb_self b in let z : ◌≡◌ {A = ℕ} 0 1 = cc in omega arith

pub eqb_swap : (a b : ℕ) → eqb a b ≡ false → eqb b a ≡ false
eqb_swap a b h = go (eqb b a) refl
  where
    go : (c : Bool) → eqb b a ≡ c → c ≡ false
    go true f = absurd (eqb_no a b h (sym (eqb→eq b a (So-of_true (eqb b a) f))))
    go false f = refl

pub and_true : (a b : Bool) → (a and b) ≡ true → (a ≡ true) × (b ≡ true)
and_true true b e = (refl, e)
and_true false b e = absurd (let z : ◌≡◌ {A = ℕ} 0 1 = cc in omega arith)

pub true_and : (a b : Bool) → a ≡ true → b ≡ true → (a and b) ≡ true
true_and a b p q = rw (p, q) refl

-- the first of two fails; the second does
pub and_false_left : (a b : Bool) → a ≡ false → false ≡ (a and b)
and_false_left a b e = rw e refl

pub and_false_right : (a b : Bool) → false ≡ b → false ≡ (a and b)
and_false_right true b e = e
and_false_right false b e = refl

-- the first passes, and the second decides
pub and_true_left : (a b r : Bool) → a ≡ true → r ≡ b → r ≡ (a and b)
and_true_left a b r e f = rw e f

-- what is false is what fails
pub both_false : {r x : Bool} → r ≡ false → false ≡ x → r ≡ x
both_false e f = e ∙ f

pub one_none : (b : Bool) → one b ≡ 0 → not b ≡ true
one_none true e = absurd (omega arith)
one_none false e = refl

pub none-one : (b : Bool) → not b ≡ true → one b ≡ 0
none-one true e = absurd (let z : ◌≡◌ {A = ℕ} 0 1 = cc in omega arith)
none-one false e = refl

pub not-of : (b : Bool) → not b ≡ true → b ≡ false
not-of true e = absurd (let z : ◌≡◌ {A = ℕ} 0 1 = cc in omega arith)
not-of false e = refl

pub of-not : (b : Bool) → b ≡ false → not b ≡ true
of-not b e = rw e refl

pub leb-none : (m n : ℕ) → leb m n ≡ true → one (ltb n m) ≡ 0
leb-none m n e = ap one (le-ltb n m (leb-true m n e))

pub in_reach : (m n : ℕ) → one (ltb n m) ≡ 0 → leb m n ≡ true
in_reach m n e = go (ltb n m) refl e
  where
    go : (b : Bool) → ltb n m ≡ b → one b ≡ 0 → leb m n ≡ true
    go true f g = absurd (omega arith)
    go false f g = le-leb m n (ltb-false n m f)

module _ {A : Type 0} (f : A → Bool) where
  pub sum-none : (g : A → ℕ) → ((x : A) → f x ≡ true → g x ≡ 0) → (xs : List A) → all_of f xs ≡ true → sum_of g xs ≡ 0
  unfolding all_of sum_of
  sum-none g h [] a = refl
  sum-none g h (x ∷ xs) a =
      let p = both (f x) (all_of f xs) a in
      omega (arith, h x p.0, sum-none g h xs p.1)

  pub none-all : (g g' : A → ℕ) → ((x : A) → g x ≡ 0 → g' x ≡ 0 → f x ≡ true) → (xs : List A) → sum_of g xs ≡ 0 → sum_of g' xs ≡ 0 → all_of f xs ≡ true
  unfolding all_of sum_of
  none-all g g' h [] a b = refl
  none-all g g' h (x ∷ xs) a b = rw (h x (omega arith) (omega arith)) (none-all g g' h xs (omega arith) (omega arith))
