-- `moving::few_up` meets its contract. The invariant of both loops: the first i bytes are moved, and nothing else.
use Prim.Native.Nat.{◌≤◌, ◌-◌}
use mathlib.Core.Path.{◌≡◌}
use lib.ListN.{length, take, drop}
use Rattle.image.specs.Blocks.{written}
use Rattle.image.proofs.moving.few_up.Given as goal

abbrev pub invariant-loop-i : goal.invariant-loop-i
invariant-loop-i l = (l.i ≤ l.n) × (length l.b ≡ length l.initial.b) × (l.b ≡ written l.initial.b l.to (take l.i (drop l.from l.initial.b)))

abbrev pub decreases-loop-i : goal.decreases-loop-i
decreases-loop-i l = l.n - l.i

abbrev pub invariant-loop-j : goal.invariant-loop-j
invariant-loop-j l = l.b ≡ written l.fn.b l.to (take l.j (drop l.from l.fn.b))
