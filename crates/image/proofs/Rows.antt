-- The first of some blocks that are read, those behind them, and sums over them.
use Prim.Native.Nat.{ℕ, zero, suc, ◌+◌, ◌-◌, ◌*◌, ◌≤◌, ◌<◌}
use mathlib.Core.Path.{◌≡◌, refl, ap, ◌∙◌}
use mathlib.Core.List.{List, ◌∷◌}
use native.Mathlib.Omega.{arith}
use native.Mathlib.Nat.{add-zero, suc-mul, zero-mul}
use lib.ListN.{take, drop}
use Rattle.executive.specs.Lists.{sum_of}
use Rattle.image.specs.Blocks.{blocks}

module _ {A : Type 0} (f : ℕ → A) (w : ℕ) where
  pub blocks_from : (n at k : ℕ) → k ≤ n → drop k (blocks f w n at) ≡ blocks f w (n - k) (at + k * w)
  unfolding blocks
  blocks_from n at zero h = let z : 0 * w ≡ 0 = zero-mul w in let y : n - 0 ≡ n = omega arith in rw (z, y, add-zero at) refl
  blocks_from zero at (suc k) h = absurd (omega arith)
  blocks_from (suc n) at (suc k) h =
      let z : at + w + k * w ≡ at + suc k * w = rw (suc-mul k w) (omega arith) in
      let y : suc n - suc k ≡ n - k = omega arith in
      blocks_from n (at + w) k (omega arith) ∙ rw (z, y) refl

  pub blocks-first : (n at k : ℕ) → k ≤ n → take k (blocks f w n at) ≡ blocks f w k at
  unfolding blocks
  blocks-first n at zero h = refl
  blocks-first zero at (suc k) h = absurd (omega arith)
  blocks-first (suc n) at (suc k) h = ap (λ (xs : List A). f at ∷ xs) (blocks-first n (at + w) k (omega arith))

-- two sums over as many blocks, number by number the same
pub sum-blocks : {A B : Type 0} (g : A → ℕ) (h : B → ℕ) (f : ℕ → A) (v : ℕ) (e : ℕ → B) (w n at to : ℕ)
    → ((i : ℕ) → i < n → g (f (at + i * v)) ≡ h (e (to + i * w))) → sum_of g (blocks f v n at) ≡ sum_of h (blocks e w n to)
unfolding blocks sum_of
sum-blocks g h f v e w zero at to s = refl
sum-blocks g h f v e w (suc n) at to s =
    let y : at + 0 * v ≡ at = ap (λ (k : ℕ). at + k) (zero-mul v) ∙ add-zero at in
    let z : to + 0 * w ≡ to = ap (λ (k : ℕ). to + k) (zero-mul w) ∙ add-zero to in
    let a : g (f at) ≡ h (e to) = rw (y, z) at (s 0 (omega arith)) in
    let more : (i : ℕ) → i < n → g (f (at + v + i * v)) ≡ h (e (to + w + i * w)) = λ i l.
    let p : at + suc i * v ≡ at + v + i * v = rw (suc-mul i v) (omega arith) in
    let q : to + suc i * w ≡ to + w + i * w = rw (suc-mul i w) (omega arith) in
    rw (p, q) at (s (suc i) (omega arith)) in
    rw a (ap (λ (x : ℕ). h (e to) + x) (sum-blocks g h f v e w n (at + v) (to + w) more))
