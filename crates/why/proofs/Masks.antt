-- The flags of a mask that are not set, bit by bit.
use Prim.Native.Nat.{ℕ, zero, suc, ◌+◌, ◌-◌, ◌/◌, ◌%◌, ◌^◌, ◌≤◌, ◌<◌, min}
use mathlib.Core.Path.{◌≡◌, refl, sym, ap, ◌∙◌}
use native.Mathlib.Omega.{arith}
use native.Mathlib.Nat.{pow-succ', div-one, div-div-eq-div-mul}
use lib.Bits.{and_step, and_le_l}
use Rattle.executive.specs.Promises.InWords.{Bit}
use Rattle.why.specs.Causes.{missing, Missing}

-- the bit n of x, as a number
abbrev bit : ℕ → ℕ → ℕ
bit n x = x / 2 ^ n % 2

bit-low : (x : ℕ) → bit 0 x ≡ x % 2
bit-low x = ap (λ y. y % 2) (div-one x)

bit_high : (n x : ℕ) → bit (suc n) x ≡ bit n (x / 2)
bit_high n x = ap (λ y. y % 2) (ap (λ y. x / y) (pow-succ' 2 n) ∙ sym (div-div-eq-div-mul x 2 (2 ^ n)))

left-high : (a b : ℕ) → missing b a / 2 ≡ missing (b / 2) (a / 2)
left-high a b = omega (arith, and_step a b, and_le_l (a / 2) (b / 2))

left-low : (a b : ℕ) → missing b a % 2 ≡ a % 2 - min (a % 2) (b % 2)
left-low a b = omega (arith, and_step a b, and_le_l (a / 2) (b / 2))

left-bit : (n a b : ℕ) → bit n (missing b a) ≡ bit n a - min (bit n a) (bit n b)
left-bit zero a b = rw (bit-low (missing b a), bit-low a, bit-low b) (left-low a b)
left-bit (suc n) a b =
    rw (bit_high n (missing b a), bit_high n a, bit_high n b, left-high a b) (left-bit n (a / 2) (b / 2))

pub missing-is : (flags mask : ℕ) → Missing flags mask (missing flags mask)
missing-is flags mask n =
    let e = left-bit n mask flags in
    (λ h. (omega (arith, e), λ g. omega (arith, e)), λ p. omega (arith, e, bit-off p.1))
  where
    bit-off : (Bit n flags → ⊥) → bit n flags ≡ 0
    bit-off f = go (bit n flags) (omega arith) f
      where
        go : (x : ℕ) → x < 2 → (x ≡ 1 → ⊥) → x ≡ 0
        go zero h g = refl
        go (suc zero) h g = absurd (g refl)
        go (suc (suc x)) h g = absurd (omega arith)

-- numbers with the same bits are the same
same_bits : (most x y : ℕ) → x ≤ most → y ≤ most → ((n : ℕ) → bit n x ≡ bit n y) → x ≡ y
same_bits zero x y h g e = omega arith
same_bits (suc most) x y h g e =
    let low : x % 2 ≡ y % 2 = sym (bit-low x) ∙ e 0 ∙ bit-low y in
    let high : x / 2 ≡ y / 2 = same_bits most (x / 2) (y / 2) (omega arith) (omega arith) (λ n. sym (bit_high n x) ∙ e (suc n) ∙ bit_high n y) in
    omega arith

pub missing-only : (flags mask x y : ℕ) → Missing flags mask x → Missing flags mask y → x ≡ y
missing-only flags mask x y p q = same_bits (x + y) x y (omega arith) (omega arith) same
  where
    go : (a b : ℕ) → a < 2 → b < 2 → (a ≡ 1 → b ≡ 1) → (b ≡ 1 → a ≡ 1) → a ≡ b
    go zero zero h g f k = refl
    go zero (suc zero) h g f k = k refl
    go (suc zero) zero h g f k = sym (f refl)
    go (suc zero) (suc zero) h g f k = refl
    go (suc (suc a)) b h g f k = absurd (omega arith)
    go zero (suc (suc b)) h g f k = absurd (omega arith)
    go (suc zero) (suc (suc b)) h g f k = absurd (omega arith)

    same : (n : ℕ) → bit n x ≡ bit n y
    same n = go (bit n x) (bit n y) (omega arith) (omega arith) (λ e. (q n).1 ((p n).0 e)) (λ e. (p n).1 ((q n).0 e))
