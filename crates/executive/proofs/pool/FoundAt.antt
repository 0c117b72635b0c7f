-- The earliest request for a task, as the search of the pool answers it: where it stands, or that there is none.
use Prim.Native.Nat.{ℕ, ◌<◌}
use mathlib.Core.Path.{◌≡◌, refl}
use mathlib.Core.Bool.{Bool, true, false, cond}
use borrow.Author.Tests.{ltb-true}
use lib.Dec.{ltb}
use Rattle.std.specs.Prelude.{Some, None}
use Rattle.executive.specs.Pool.{found_at}

pub found-is : (m n i : ℕ) → found_at m n ≡ Some i → (m ≡ i) × (m < n)
unfolding found_at
found-is m n i e = go (ltb m n) refl e
  where
    go : (b : Bool) → ltb m n ≡ b → cond b (Some m) None ≡ Some i → (m ≡ i) × (m < n)
    go true e f = (cc, ltb-true m n e)
    go false e f = cc

pub none_is : (m n : ℕ) → found_at m n ≡ None → ltb m n ≡ false
unfolding found_at
none_is m n e = go (ltb m n) refl e
  where
    go : (b : Bool) → ltb m n ≡ b → cond b (Some m) None ≡ None → ltb m n ≡ false
    go true e f = cc
    go false e f = e
