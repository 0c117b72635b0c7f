-- The next due alarm of those that are running. The loop's invariant: i is 32 or a member of the set, and the search from i on
-- finds what that from `from` on finds. The measure is what is left of the 32.
use mathlib.Core.Path.{◌≡◌}
use mathlib.Core.Bool.{true}
use Prim.Native.Nat.{◌≤◌, ◌<◌, ◌-◌}
use lib.ListN.{drop}
use Rattle.executive.specs.declared.Table.{Table}
use Rattle.executive.specs.Lists.{next_of}
use Rattle.executive.specs.Clock.{is_due}
use Rattle.executive.specs.Flags.{is_set}
use Rattle.image.specs.Laid.{Laid}
use Rattle.image.specs.Marks.{Running}
use Rattle.image.proofs.ringing.next_due.Given as goal

abbrev pub invariant-loop-i : goal.invariant-loop-i
invariant-loop-i l =
    (l.from ≤ l.i) × (l.i ≤ 32) × (l.i < 32 → is_set l.running l.i ≡ true)
    × ((t : Table) → Laid l.b t → Running l.running t.rest.alarms → next_of (is_due l.time) l.i (drop l.i t.rest.alarms) ≡ next_of (is_due l.time) l.from (drop l.from t.rest.alarms))

abbrev pub decreases-loop-i : goal.decreases-loop-i
decreases-loop-i l = 32 - l.i
