-- Steps for each number, ascending: what every step keeps holds at the end.
use Prim.Native.Nat.{ℕ, zero, suc, ◌+◌, ◌≤◌, ◌<◌}
use mathlib.Core.Path.{◌≡◌}
use native.Mathlib.Omega.{arith}
use Rattle.executive.specs.Lists.{each}

pub each_keeps : {A : Type 0} (f : A → ℕ → A) (P : ℕ → A → Type 0) (n k : ℕ) (a : A) → P k a
    → ((i : ℕ) (b : A) → k ≤ i → i < k + n → P i b → P (i + 1) (f b i)) → P (k + n) (each f n k a)
unfolding each
each_keeps f P zero k a p t = let z : k + 0 ≡ k = omega arith in rw z p
each_keeps f P (suc n) k a p t =
    let z : k + suc n ≡ k + 1 + n = omega arith in
    rw z (each_keeps f P n (k + 1) (f a k) (t k a (omega arith) (omega arith) p) (λ i b g h q. t i b (omega arith) (omega arith) q))
