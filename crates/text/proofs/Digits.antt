-- Decimal digits: how they come one after the other, and how many there are.
use Prim.Native.Nat.{ℕ, zero, suc, ◌+◌, ◌*◌, ◌/◌, ◌%◌, ◌^◌, ◌≤◌, ◌<◌}
use mathlib.Core.Path.{◌≡◌, refl, ap, ◌∙◌}
use mathlib.Core.Bool.{Bool, true, false}
use mathlib.Core.List.{[], ◌∷◌, ◌++◌}
use native.Mathlib.Omega.{arith}
use native.Mathlib.Nat.{pow-suc}
use lib.ListN.{length, length-append}
use lib.Dec.{ltb}
use borrow.Author.Tests.{lt-ltb, le-ltb, ltb-true, ltb-false}
use Rattle.text.specs.Glyphs.{decimal_of, digits_in}

-- by cases of a test
pub decide : {P : Type 0} (b : Bool) → (b ≡ true → P) → (b ≡ false → P) → P
decide true f g = f refl
decide false f g = g refl

-- more turns than n change nothing
enough : (j k n : ℕ) → n ≤ j → n ≤ k → digits_in j n ≡ digits_in k n
enough zero zero n h g = refl
enough zero (suc k) n h g = rw (lt-ltb n 10 (omega arith))
enough (suc j) zero n h g = rw (lt-ltb n 10 (omega arith))
enough (suc j) (suc k) n h g =
    decide (ltb n 10)
    (λ e. rw e)
    (λ e.
    let big = ltb-false n 10 e in
    rw e (ap (λ d. d ++ ((48 + n % 10) ∷ [])) (enough j k (n / 10) (omega arith) (omega arith))))

pub decimal_one : (n : ℕ) → n < 10 → decimal_of n ≡ (48 + n) ∷ []
unfolding decimal_of
decimal_one zero h = refl
decimal_one (suc n) h = rw (lt-ltb (suc n) 10 h)

pub decimal_more : (n : ℕ) → 10 ≤ n → decimal_of n ≡ decimal_of (n / 10) ++ ((48 + n % 10) ∷ [])
unfolding decimal_of
decimal_more zero h = absurd (omega arith)
decimal_more (suc n) h =
    rw (le-ltb (suc n) 10 h) (ap (λ d. d ++ ((48 + suc n % 10) ∷ [])) (enough n (suc n / 10) (suc n / 10) (omega arith) (omega arith)))

-- a digit more is one line of digits more
pub decimal_length : (n : ℕ) → 10 ≤ n → length (decimal_of n) ≡ length (decimal_of (n / 10)) + 1
decimal_length n h = ap length (decimal_more n h) ∙ length-append (decimal_of (n / 10)) ((48 + n % 10) ∷ [])

-- a number below 10 ^ (k + 1) has at most k + 1 digits
pub decimal_short : (k n : ℕ) → n < 10 ^ suc k → length (decimal_of n) ≤ suc k
decimal_short zero n h = omega (arith, ap length (decimal_one n (omega arith)))
decimal_short (suc k) n h =
    decide (ltb n 10)
    (λ e. omega (arith, ap length (decimal_one n (ltb-true n 10 e))))
    (λ e.
    let g = ltb-false n 10 e in
    let q : 10 ^ suc (suc k) ≡ 10 ^ suc k * 10 = pow-suc 10 (suc k) in
    let i : n / 10 < 10 ^ suc k = omega arith in
    omega (arith, decimal_length n g, decimal_short k (n / 10) i))

ten_to_pos : (k : ℕ) → 0 < 10 ^ k
ten_to_pos zero = omega arith
ten_to_pos (suc k) = omega (arith, pow-suc 10 k, ten_to_pos k)

-- a number from 10 ^ k on has more than k
pub decimal_long : (k n : ℕ) → 10 ^ k ≤ n → suc k ≤ length (decimal_of n)
decimal_long zero n h =
    decide (ltb n 10)
    (λ e. omega (arith, ap length (decimal_one n (ltb-true n 10 e))))
    (λ e. omega (arith, decimal_length n (ltb-false n 10 e)))
decimal_long (suc k) n h =
    let q : 10 ^ suc k ≡ 10 ^ k * 10 = pow-suc 10 k in
    let i : 10 ^ k ≤ n / 10 = omega arith in
    omega (arith, decimal_length n (omega (arith, ten_to_pos k)), decimal_long k (n / 10) i)
