-- `zeros::are_zero` meets its contract. The invariant of each of the three loops: what is put together is zero where the bytes passed are.
use Prim.Native.Nat.{◌-◌, ◌≤◌}
use mathlib.Core.Path.{◌≡◌}
use lib.Dec.{eqb}
use Rattle.image.specs.Sound.{noughts}
use Rattle.image.proofs.zeros.are_zero.Given as goal

abbrev pub invariant-loop-at : goal.invariant-loop-at
invariant-loop-at l = (l.from ≤ l.at) × (l.at ≤ l.to) × (eqb l.all 0 ≡ noughts l.b (l.at - l.from) l.from)

abbrev pub decreases-loop-at : goal.decreases-loop-at
decreases-loop-at l = l.to - l.at

abbrev pub invariant-loop-at-2 : goal.invariant-loop-at-2
invariant-loop-at-2 l = (l.from ≤ l.at) × (l.at ≤ l.to) × (eqb l.all 0 ≡ noughts l.b (l.at - l.from) l.from)

abbrev pub decreases-loop-at-2 : goal.decreases-loop-at-2
decreases-loop-at-2 l = l.to - l.at

abbrev pub invariant-loop-i : goal.invariant-loop-i
invariant-loop-i l = (l.from ≤ l.i) × (eqb l.all 0 ≡ noughts l.b (l.i - l.from) l.from)
