-- `telling::task_numbers` meets its contract: task after task.
use Prim.Native.Nat.{◌+◌, ◌*◌, ◌≤◌}
use lib.ListN.{take}
use Rattle.text.specs.Glyphs.{Adds}
use Rattle.why.specs.Texts.{task_numbers}
use Rattle.why.proofs.telling.task_numbers.Given as goal

abbrev pub invariant-loop-s : goal.invariant-loop-s
invariant-loop-s l = Adds l.initial.out l.at l.out l.place (task_numbers (take l.s-index l.steps)) × (l.place ≤ l.at + 52 * l.s-index)
