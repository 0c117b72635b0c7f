-- `sound_entries::kind_sets` meets its contract. The invariant: the sets are those of the first k tasks.
use Rattle.image.specs.Sound.{tasks_in}
use Rattle.image.specs.Marks.{Kinds}
use Rattle.image.proofs.sound_entries.kind_sets.Given as goal

abbrev pub invariant-loop-k : goal.invariant-loop-k
invariant-loop-k l = Kinds l.k l.sets (tasks_in l.b)
