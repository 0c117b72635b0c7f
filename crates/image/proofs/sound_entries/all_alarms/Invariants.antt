-- `sound_entries::all_alarms` meets its contract. The invariant: the alarms from i on decide, and the set is that of the running
-- ones before them.
use mathlib.Core.Path.{◌≡◌}
use lib.ListN.{drop}
use Rattle.executive.specs.Lists.{all_of}
use Rattle.executive.specs.Check.{alarm_right}
use Rattle.image.specs.Image.{load_of}
use Rattle.image.specs.Marks.{Marked}
use Rattle.image.proofs.EntriesRead.{runs}
use Rattle.image.proofs.sound_entries.all_alarms.Given as goal

abbrev pub invariant-loop-i : goal.invariant-loop-i
invariant-loop-i l = (all_of (alarm_right l.time.0) (drop l.i (load_of l.b).rest.alarms) ≡ all_of (alarm_right l.time.0) (load_of l.b).rest.alarms) × Marked l.i l.running (runs l.b)
