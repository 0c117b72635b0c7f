-- The bits of a word: of a union, of a single bit, of a word below a power; two words with the same bits are one.
use mathlib.Core.Path.{◌≡◌, refl, sym, ap, ap₂, ◌∙◌}
use mathlib.Core.Logic.{◌↔◌}
use mathlib.Core.Bool.{Bool, true, false, not, ◌||◌}
use Prim.Native.Nat.{ℕ, zero, suc, ◌+◌, ◌*◌, ◌/◌, ◌%◌, ◌^◌, ◌<◌, min, max}
use native.Mathlib.Omega.{arith}
use borrow.Author.Tests.{eq-eqb, ne_eqb}
use lib.Dec.{eqb}
use lib.Arith.{bin_ind, digits_div, digits_mod}
use lib.Bits.{bit_and, bit_or, and_step, and_zero_l, or_step, or_zero_l, and_mask}
use Rattle.executive.specs.Flags.{is_set}
use Rattle.executive.proofs.Lists.Tests.{false_not_true}

-- a number that is not 0
some : (x : ℕ) → eqb (suc x) 0 ≡ false
some x = ne_eqb (suc x) 0 (λ z. absurd (omega arith))

-- ---- the lowest bit, and those above it
half_power : (p : ℕ) → 2 ^ suc p / 2 ≡ 2 ^ p
half_power p = omega arith

even_power : (p : ℕ) → 2 ^ suc p % 2 ≡ 0
even_power p = omega arith

set-low : (w : ℕ) → is_set w 0 ≡ not (eqb (w % 2) 0)
unfolding is_set
set-low w = ap (λ (x : ℕ). not (eqb x 0)) (and_mask w 1)

and_power : (w p : ℕ) → bit_and w (2 ^ suc p) ≡ bit_and (w / 2) (2 ^ p) * 2
and_power w p =
    let h : 2 ^ suc p / 2 ≡ 2 ^ p = half_power p in
    let z : 2 ^ suc p % 2 ≡ 0 = even_power p in
    and_step w (2 ^ suc p) ∙ ap₂ (λ (x y : ℕ). bit_and (w / 2) x * 2 + min (w % 2) y) h z ∙ omega arith

set-half : (w p : ℕ) → is_set w (suc p) ≡ is_set (w / 2) p
unfolding is_set
set-half w p = ap not (go (bit_and (w / 2) (2 ^ p)) (bit_and w (2 ^ suc p)) (and_power w p))
  where
    go : (x y : ℕ) → y ≡ x * 2 → eqb y 0 ≡ eqb x 0
    go zero y e = eq-eqb y 0 (omega arith)
    go (suc x) y e = ne_eqb y 0 (λ z. absurd (omega arith)) ∙ sym (some x)

-- ---- no bit of 0 is set
pub set-none : (p : ℕ) → is_set 0 p ≡ false
unfolding is_set
set-none p = ap (λ (x : ℕ). not (eqb x 0)) (and_zero_l (2 ^ p))

-- ---- a union's bits are those of both
or-half : (a b : ℕ) → bit_or a b / 2 ≡ bit_or (a / 2) (b / 2)
or-half a b = let d : max (a % 2) (b % 2) < 2 = omega arith in ap (λ (x : ℕ). x / 2) (or_step a b) ∙ digits_div (bit_or (a / 2) (b / 2)) d

or-low : (a b : ℕ) → bit_or a b % 2 ≡ max (a % 2) (b % 2)
or-low a b = let d : max (a % 2) (b % 2) < 2 = omega arith in ap (λ (x : ℕ). x % 2) (or_step a b) ∙ digits_mod (bit_or (a / 2) (b / 2)) d

either-low : (x y : ℕ) → not (eqb (max x y) 0) ≡ not (eqb x 0) || not (eqb y 0)
either-low zero y = let z : max 0 y ≡ y = omega arith in ap (λ (x : ℕ). not (eqb x 0)) z
either-low (suc x) y = ap not (ne_eqb (max (suc x) y) 0 (λ z. absurd (omega arith))) ∙ sym (ap (λ (b : Bool). not b || not (eqb y 0)) (some x))

pub set-or : (p a b : ℕ) → is_set (bit_or a b) p ≡ is_set a p || is_set b p
set-or zero a b =
    set-low (bit_or a b) ∙ ap (λ (x : ℕ). not (eqb x 0)) (or-low a b) ∙ either-low (a % 2) (b % 2) ∙ sym (ap₂ (λ (x y : Bool). x || y) (set-low a) (set-low b))
set-or (suc p) a b =
    set-half (bit_or a b) p
    ∙ ap (λ (x : ℕ). is_set x p) (or-half a b)
    ∙ set-or p (a / 2) (b / 2)
    ∙ sym (ap₂ (λ (x y : Bool). x || y) (set-half a p) (set-half b p))

max_assoc : (x y z : ℕ) → max (max x y) z ≡ max x (max y z)
max_assoc x y z = omega arith

pub or_assoc : (a b c : ℕ) → bit_or (bit_or a b) c ≡ bit_or a (bit_or b c)
or_assoc a =
    bin_ind (λ (n : ℕ). (b c : ℕ) → bit_or (bit_or n b) c ≡ bit_or n (bit_or b c))
    (λ b c. ap (λ (x : ℕ). bit_or x c) (or_zero_l b) ∙ sym (or_zero_l (bit_or b c)))
    (λ n ih b c.
    or_step (bit_or n b) c
    ∙ ap₂ (λ (x y : ℕ). bit_or x (c / 2) * 2 + max y (c % 2)) (or-half n b) (or-low n b)
    ∙ ap₂ (λ (x y : ℕ). x * 2 + y) (ih (b / 2) (c / 2)) (max_assoc (n % 2) (b % 2) (c % 2))
    ∙ sym (or_step n (bit_or b c) ∙ ap₂ (λ (x y : ℕ). bit_or (n / 2) x * 2 + max (n % 2) y) (or-half b c) (or-low b c)))
    a

-- ---- the bits of a single bit
pub set_same : (p : ℕ) → is_set (2 ^ p) p ≡ true
set_same zero = set-low 1
set_same (suc p) = set-half (2 ^ suc p) p ∙ ap (λ (x : ℕ). is_set x p) (half_power p) ∙ set_same p

pub set-only : (q p : ℕ) → is_set (2 ^ q) p ≡ true → q ≡ p
set-only zero zero h = refl
set-only zero (suc p) h = false_not_true (sym (set-half 1 p ∙ set-none p) ∙ h)
set-only (suc q) zero h = false_not_true (sym (set-low (2 ^ suc q) ∙ ap (λ (x : ℕ). not (eqb x 0)) (even_power q)) ∙ h)
set-only (suc q) (suc p) h = ap suc (set-only q p (sym (set-half (2 ^ suc q) p ∙ ap (λ (x : ℕ). is_set x p) (half_power q)) ∙ h))

-- ---- a word below 2^n has no bit from n on; two such words with the same bits are one
pub set-within : (n w p : ℕ) → w < 2 ^ n → is_set w p ≡ true → p < n
set-within zero w p l h = let z : w ≡ 0 = omega arith in false_not_true (sym (ap (λ (x : ℕ). is_set x p) z ∙ set-none p) ∙ h)
set-within (suc n) w zero l h = omega arith
set-within (suc n) w (suc p) l h = omega (arith, set-within n (w / 2) p (omega arith) (sym (set-half w p) ∙ h))

low_same : (x y : ℕ) → x < 2 → y < 2 → (not (eqb x 0) ≡ true → not (eqb y 0) ≡ true) → (not (eqb y 0) ≡ true → not (eqb x 0) ≡ true) → x ≡ y
low_same zero zero h l f g = refl
low_same zero (suc y) h l f g = false_not_true (g (ap not (some y)))
low_same (suc x) zero h l f g = false_not_true (f (ap not (some x)))
low_same (suc x) (suc y) h l f g = omega arith

pub same_bits : (n a b : ℕ) → a < 2 ^ n → b < 2 ^ n → ((p : ℕ) → (is_set a p ≡ true) ↔ (is_set b p ≡ true)) → a ≡ b
same_bits zero a b h l f = omega arith
same_bits (suc n) a b h l f =
    let low : a % 2 ≡ b % 2 = low_same (a % 2) (b % 2) (omega arith) (omega arith) (λ e. sym (set-low b) ∙ (f 0).0 (set-low a ∙ e)) (λ e. sym (set-low a) ∙ (f 0).1 (set-low b ∙ e)) in
    let high : a / 2 ≡ b / 2 =
    same_bits n (a / 2) (b / 2) (omega arith) (omega arith)
    (λ p. (λ e. sym (set-half b p) ∙ (f (suc p)).0 (set-half a p ∙ e), λ e. sym (set-half a p) ∙ (f (suc p)).1 (set-half b p ∙ e))) in
    omega arith
