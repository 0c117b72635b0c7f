use mathlib.Core.Path.{◌≡◌}
use Prim.Native.Nat.{◌+◌, ◌*◌, ◌<◌}
use Rattle.executive.proofs.clock.added_up.Given as goal

abbrev pub invariant-loop-left : goal.invariant-loop-left
invariant-loop-left l = (l.left < 256) × (l.sum + l.left * l.step ≡ l.count * l.unit)

abbrev pub decreases-loop-left : goal.decreases-loop-left
decreases-loop-left l = l.left
