-- Laws of masks: clearing flags makes no condition true.
use mathlib.Core.Path.{◌≡◌, refl, sym, ap, ap₂, ◌∙◌}
use mathlib.Core.Bool.{false, not}
use Prim.Native.Nat.{ℕ, ◌+◌, ◌*◌, ◌/◌, ◌%◌, ◌≤◌, ◌<◌, min}
use native.Mathlib.Omega.{arith}
use borrow.Author.Tests.{eqb-true, eqb-false, eq-eqb, ne_eqb, not-false}
use lib.Dec.{eqb}
use lib.Arith.{bin_ind, digits_div, digits_mod}
use lib.Bits.{bit_and, and_step, and_comm, and_le_r}
use Rattle.executive.specs.declared.Mode.{Mode}
use Rattle.executive.specs.declared.Mode.TheVariants.{Any, All}
use Rattle.executive.specs.Flags.{met}

-- the lowest digit of a conjunction, and the digits above it
digit : (a b : ℕ) → min (a % 2) (b % 2) < 2
digit a b = omega arith

and-half : (a b : ℕ) → bit_and a b / 2 ≡ bit_and (a / 2) (b / 2)
and-half a b = ap (λ (x : ℕ). x / 2) (and_step a b) ∙ digits_div (bit_and (a / 2) (b / 2)) (digit a b)

and_low : (a b : ℕ) → bit_and a b % 2 ≡ min (a % 2) (b % 2)
and_low a b = ap (λ (x : ℕ). x % 2) (and_step a b) ∙ digits_mod (bit_and (a / 2) (b / 2)) (digit a b)

min_assoc : (x y z : ℕ) → min (min x y) z ≡ min x (min y z)
min_assoc x y z = omega arith

pub and_assoc : (a b c : ℕ) → bit_and (bit_and a b) c ≡ bit_and a (bit_and b c)
and_assoc a =
    bin_ind (λ (n : ℕ). (b c : ℕ) → bit_and (bit_and n b) c ≡ bit_and n (bit_and b c)) (λ b c. refl)
    (λ n ih b c.
    and_step (bit_and n b) c
    ∙ ap₂ (λ (x y : ℕ). bit_and x (c / 2) * 2 + min y (c % 2)) (and-half n b) (and_low n b)
    ∙ ap₂ (λ (x y : ℕ). x * 2 + y) (ih (b / 2) (c / 2)) (min_assoc (n % 2) (b % 2) (c % 2))
    ∙ sym (and_step n (bit_and b c) ∙ ap₂ (λ (x y : ℕ). bit_and (n / 2) x * 2 + min (n % 2) y) (and-half b c) (and_low b c)))
    a

-- fewer flags leave fewer of a mask
pub and-fewer : (fs x mask : ℕ) → bit_and (bit_and fs x) mask ≤ bit_and fs mask
and-fewer fs x mask =
    let e : bit_and (bit_and fs x) mask ≡ bit_and x (bit_and fs mask) = ap (λ (y : ℕ). bit_and y mask) (and_comm fs x) ∙ and_assoc x fs mask in
    omega (arith, and_le_r x (bit_and fs mask))

pub met-fewer : (fs x : ℕ) (m : Mode) (mask : ℕ) → met fs m mask ≡ false → met (bit_and fs x) m mask ≡ false
met-fewer fs x Any mask e =
    let z : bit_and fs mask ≡ 0 = eqb-true (bit_and fs mask) 0 (not-false (eqb (bit_and fs mask) 0) e) in
    ap not (eq-eqb (bit_and (bit_and fs x) mask) 0 (omega (arith, and-fewer fs x mask)))
met-fewer fs x All mask e =
    ne_eqb (bit_and (bit_and fs x) mask) mask (λ z. eqb-false (bit_and fs mask) mask e (omega (arith, and-fewer fs x mask, and_le_r fs mask)))
