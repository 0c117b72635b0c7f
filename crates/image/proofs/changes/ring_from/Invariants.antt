-- The due alarms ring, of those that are running. The loop's invariant: the bytes are the image of a table in which those
-- before i rang and the others are as they were, and what is left to ring from i on gives the whole. The measure is what is
-- left of the 32.
use mathlib.Core.Path.{◌≡◌}
use Prim.Native.Nat.{◌-◌}
use lib.ListN.{length}
use Rattle.executive.specs.declared.Table.{Table}
use Rattle.image.specs.Laid.{Laid}
use Rattle.image.specs.Marks.{Running}
use Rattle.image.proofs.RestLaid.{Rung}
use Rattle.image.proofs.changes.ring_from.Given as goal

abbrev pub invariant-loop-i : goal.invariant-loop-i
invariant-loop-i l = (t : Table) → Laid l.initial.b t → Running l.running t.rest.alarms → l.time ≡ t.rest.clock.0 → Rung l.b t l.time l.first l.i

abbrev pub decreases-loop-i : goal.decreases-loop-i
decreases-loop-i l = 32 - l.i
