-- The bits of a word as the code tests them: (w >> k) & 1, the bits of a word that is shifted, the zeros below its lowest bit.
use Prim.Native.Nat.{ℕ, zero, suc, ◌+◌, ◌-◌, ◌*◌, ◌/◌, ◌%◌, ◌^◌, ◌≤◌, ◌<◌}
use mathlib.Core.Path.{◌≡◌, refl, sym, ap, ◌∙◌, subst}
use mathlib.Core.Bool.{Bool, true, false, not}
use native.Mathlib.Omega.{arith}
use borrow.Author.Tests.{eq-eqb, ne_eqb, ltb-true, ltb-false}
use lib.Dec.{eqb, ltb}
use lib.Bits.{bit_and, and_mask, and_high}
use lib.Pow.{pow_pos, shr-shr, shr_lt}
use lib.Count.{under, count_trailing_zeros}
use Rattle.executive.specs.Flags.{is_set}
use Rattle.executive.proofs.Assured.{false_not_true, set-none, set-within, same_bits}
use Rattle.image.specs.Marks.{Next}

-- ---- bit k of w is the lowest of w shifted down by k
scaled : (x p : ℕ) → x < 2 → 0 < p → eqb (x * p) 0 ≡ eqb x 0
scaled zero p h g = let z : 0 * p ≡ 0 = omega arith in ap (λ (n : ℕ). eqb n 0) z
scaled (suc zero) p h g = ne_eqb (1 * p) 0 (λ z. absurd (omega arith)) ∙ sym (ne_eqb 1 0 (λ z. absurd (omega arith)))
scaled (suc (suc x)) p h g = absurd (omega arith)

pub bit-low : (w k : ℕ) → is_set w k ≡ not (eqb (w / 2 ^ k % 2) 0)
unfolding is_set
bit-low w k =
    let e : 2 ^ (1 + k) - 2 ^ k ≡ 2 ^ k = let z : 1 + k ≡ suc k = omega arith in rw z (omega arith) in
    let h : w / 2 ^ k % 2 < 2 = omega arith in
    ap (λ (m : ℕ). not (eqb (bit_and w m) 0)) (sym e) ∙ ap (λ (m : ℕ). not (eqb m 0)) (and_high w 1 k) ∙ ap not (scaled (w / 2 ^ k % 2) (2 ^ k) h (pow_pos k))

-- as the code tests it
pub bit-tested : (w k : ℕ) → is_set w k ≡ not (eqb (bit_and (w / 2 ^ k) 1) 0)
bit-tested w k = bit-low w k ∙ ap (λ (m : ℕ). not (eqb m 0)) (sym (and_mask (w / 2 ^ k) 1))

pub bit-clear : (w k : ℕ) → bit_and (w / 2 ^ k) 1 ≡ 0 → is_set w k ≡ false
bit-clear w k h = bit-tested w k ∙ ap not (eq-eqb (bit_and (w / 2 ^ k) 1) 0 h)

pub bit-set : (w k : ℕ) → (bit_and (w / 2 ^ k) 1 ≡ 0 → ⊥) → is_set w k ≡ true
bit-set w k h = bit-tested w k ∙ ap not (ne_eqb (bit_and (w / 2 ^ k) 1) 0 h)

-- ---- the bits of a word shifted down, its lowest bit and those above it
pub bit_shifted : (w j k : ℕ) → is_set (w / 2 ^ j) k ≡ is_set w (j + k)
bit_shifted w j k = bit-low (w / 2 ^ j) k ∙ ap (λ (m : ℕ). not (eqb (m % 2) 0)) (shr-shr w j k) ∙ sym (bit-low w (j + k))

bit-first : (w : ℕ) → is_set w 0 ≡ not (eqb (w % 2) 0)
bit-first w = let z : w / 2 ^ 0 ≡ w = omega arith in bit-low w 0 ∙ ap (λ (m : ℕ). not (eqb (m % 2) 0)) z

bit-next : (w k : ℕ) → is_set w (suc k) ≡ is_set (w / 2) k
bit-next w k = let z : 1 + k ≡ suc k = omega arith in sym (bit_shifted w 1 k ∙ ap (is_set w) z)

-- ---- the bits of a word shifted up by one; of the word that has the others of n bits
pub bit-doubled : (w k : ℕ) → is_set (w * 2) k ≡ true → (0 < k) × (is_set w (k - 1) ≡ true)
bit-doubled w zero e =
    let z : w * 2 % 2 ≡ 0 = omega arith in
    false_not_true (sym (bit-first (w * 2) ∙ ap not (eq-eqb (w * 2 % 2) 0 z)) ∙ e)
bit-doubled w (suc k) e =
    let z : w * 2 / 2 ≡ w = omega arith in
    let y : suc k - 1 ≡ k = omega arith in
    (omega arith, ap (is_set w) y ∙ sym (bit-next (w * 2) k ∙ ap (λ (x : ℕ). is_set x k) z) ∙ e)

pub bit_inverse : (n w k : ℕ) → w < 2 ^ n → k < n → is_set (2 ^ n - 1 - w) k ≡ not (is_set w k)
bit_inverse zero w k h l = absurd (omega arith)
bit_inverse (suc n) w zero h l = bit-first (2 ^ suc n - 1 - w) ∙ other (w % 2) ((2 ^ suc n - 1 - w) % 2) (omega arith) ∙ ap not (sym (bit-first w))
  where
    other : (x y : ℕ) → y ≡ 1 - x → not (eqb y 0) ≡ not (not (eqb x 0))
    other zero y e = ap (λ (m : ℕ). not (eqb m 0)) e
    other (suc x) y e = let z : y ≡ 0 = omega arith in ap (λ (m : ℕ). not (eqb m 0)) z ∙ ap (λ (b : Bool). not (not b)) (sym (ne_eqb (suc x) 0 (λ z. absurd (omega arith))))
bit_inverse (suc n) w (suc k) h l =
    let z : (2 ^ suc n - 1 - w) / 2 ≡ 2 ^ n - 1 - w / 2 = omega arith in
    bit-next (2 ^ suc n - 1 - w) k ∙ ap (λ (x : ℕ). is_set x k) z ∙ bit_inverse n (w / 2) k (omega arith) (omega arith) ∙ ap not (sym (bit-next w k))

-- ---- of k bits, those below the lowest that is set; that one
pub trailing_clear : (k w j : ℕ) → j < count_trailing_zeros k w → is_set w j ≡ false
unfolding count_trailing_zeros
trailing_clear zero w j h = absurd (omega arith)
trailing_clear (suc k) w j h = go (λ i g. trailing_clear k (w / 2) i g) (w % 2) refl j h
  where
    go : ((i : ℕ) → i < count_trailing_zeros k (w / 2) → is_set (w / 2) i ≡ false) → (d : ℕ) → w % 2 ≡ d → (j : ℕ) → j < under d (count_trailing_zeros k (w / 2)) → is_set w j ≡ false
    go f zero e zero h = bit-first w ∙ ap not (eq-eqb (w % 2) 0 e)
    go f zero e (suc j) h = bit-next w j ∙ f j (omega arith)
    go f (suc d) e j h = absurd (omega arith)

pub trailing_set : (k w : ℕ) → count_trailing_zeros k w < k → is_set w (count_trailing_zeros k w) ≡ true
unfolding count_trailing_zeros
trailing_set zero w h = absurd (omega arith)
trailing_set (suc k) w h = go (λ g. trailing_set k (w / 2) g) (w % 2) refl h
  where
    go : (count_trailing_zeros k (w / 2) < k → is_set (w / 2) (count_trailing_zeros k (w / 2)) ≡ true) → (d : ℕ) → w % 2 ≡ d → under d (count_trailing_zeros k (w / 2)) < suc k → is_set w (under d (count_trailing_zeros k (w / 2))) ≡ true
    go f zero e h = bit-next w (count_trailing_zeros k (w / 2)) ∙ f (omega arith)
    go f (suc d) e h = bit-first w ∙ ap not (ne_eqb (w % 2) 0 (λ z. absurd (omega arith)))

-- a word of n bits of which none is set is 0; so the zeros below the lowest bit of another are fewer than n
no_bits : (n w : ℕ) → w < 2 ^ n → ((j : ℕ) → j < n → is_set w j ≡ false) → w ≡ 0
no_bits n w h f = same_bits n w 0 h (pow_pos n) (λ p. (λ e. false_not_true (sym (f p (set-within n w p h e)) ∙ e), λ e. false_not_true (sym (set-none p) ∙ e)))

trailing_few : (k n w : ℕ) → w < 2 ^ n → (w ≡ 0 → ⊥) → count_trailing_zeros k w < n
trailing_few k n w h g = go (ltb (count_trailing_zeros k w) n) refl
  where
    go : (b : Bool) → ltb (count_trailing_zeros k w) n ≡ b → count_trailing_zeros k w < n
    go true e = ltb-true (count_trailing_zeros k w) n e
    go false e = absurd (g (no_bits n w h (λ j l. trailing_clear k w j (omega (arith, ltb-false (count_trailing_zeros k w) n e, l)))))

-- ---- the next member of a set from a number on: none from 32 on, none where nothing is left, the lowest bit of what is left
module _ (w from : ℕ) (h : w < 2 ^ 32) where
  beyond : (j : ℕ) → from ≤ j → is_set w j ≡ is_set (w / 2 ^ from) (j - from)
  beyond j g = let z : from + (j - from) ≡ j = omega arith in sym (bit_shifted w from (j - from) ∙ ap (is_set w) z)

  pub next_past : from ≤ 32 → 31 < from → Next w from 32
  next_past l g = record { least = l; most = omega arith; skipped = λ j a b. absurd (omega (arith, l, g, a, b)); member = λ a. absurd (omega (arith, a)) }

  pub next-none : from ≤ 32 → w / 2 ^ from ≡ 0 → Next w from 32
  next-none l e =
      record {
        least = l;
        most = omega arith;
        skipped = λ j a b. beyond j a ∙ ap (λ (x : ℕ). is_set x (j - from)) e ∙ set-none (j - from);
        member = λ a. absurd (omega (arith, a));
      }

  pub next-first : from ≤ 31 → (w / 2 ^ from ≡ 0 → ⊥) → Next w from (from + count_trailing_zeros 32 (w / 2 ^ from))
  next-first l e =
      let t = count_trailing_zeros 32 (w / 2 ^ from) in
      let z : 32 ≡ 32 - from + from = omega arith in
      let b : w / 2 ^ from < 2 ^ (32 - from) = shr_lt (32 - from) from (subst (λ (x : ℕ). w < 2 ^ x) z h) in
      let f : t < 32 - from = trailing_few 32 (32 - from) (w / 2 ^ from) b e in
      record {
        least = omega arith;
        most = omega arith;
        skipped = λ j a g. beyond j a ∙ trailing_clear 32 (w / 2 ^ from) (j - from) (omega (arith, a, g));
        member = λ g. sym (bit_shifted w from t) ∙ trailing_set 32 (w / 2 ^ from) (omega arith);
      }
