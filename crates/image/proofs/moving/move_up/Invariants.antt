-- `moving::move_up` meets its contract. The invariant: the first i bytes are moved, and nothing else.
use Prim.Native.Nat.{◌≤◌, ◌-◌}
use mathlib.Core.Path.{◌≡◌}
use lib.ListN.{length, take, drop}
use Rattle.image.specs.Blocks.{written}
use Rattle.image.proofs.moving.move_up.Given as goal

abbrev pub invariant-loop-i : goal.invariant-loop-i
invariant-loop-i l = (l.i ≤ l.n) × (length l.b ≡ length l.initial.b) × (l.b ≡ written l.initial.b l.to (take l.i (drop l.from l.initial.b)))

abbrev pub decreases-loop-i : goal.decreases-loop-i
decreases-loop-i l = l.n - l.i
