-- The flags once the due alarms have rung. The loop's invariant: i is 32 or the place of a due alarm, and what those from i on
-- make of the flags so far is what all make of the flags. The measure is what is left of the 32.
use mathlib.Core.Path.{◌≡◌}
use Prim.Native.Nat.{◌-◌, ◌≤◌, ◌<◌}
use mathlib.Core.Bool.{true}
use lib.ListN.{get_or}
use Rattle.executive.specs.declared.Table.{Table}
use Rattle.image.specs.Laid.{Laid}
use Rattle.image.specs.Marks.{Running}
use Rattle.executive.specs.Lists.{next_of, each}
use Rattle.executive.specs.Places.{never}
use Rattle.executive.specs.Clock.{is_due}
use Rattle.executive.specs.Decisions.{rung_in}
use Rattle.image.proofs.ringing.rings.Given as goal

abbrev pub invariant-loop-i : goal.invariant-loop-i
invariant-loop-i l =
    (l.i ≤ 32)
    × ((t : Table) → Laid l.b t → Running l.running t.rest.alarms → l.first ≡ next_of (is_due l.time) 0 t.rest.alarms
    → (l.i < 32 → is_due l.time (get_or t.rest.alarms l.i never) ≡ true)
    × (each (rung_in l.time t.rest.alarms) (32 - l.i) l.i l.more ≡ each (rung_in l.time t.rest.alarms) 32 0 l.flags))

abbrev pub decreases-loop-i : goal.decreases-loop-i
decreases-loop-i l = 32 - l.i
