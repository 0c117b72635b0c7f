-- `executive::configuration::tasks_right` meets its contract.
use mathlib.Core.Path.{◌≡◌}
use mathlib.Core.Bool.{true}
use Rattle.executive.specs.Lists.{up_to}
use Rattle.executive.specs.Configuration.{task_right}
use Rattle.executive.proofs.configuration.tasks_right.Given as goal

abbrev pub invariant-loop-i : goal.invariant-loop-i
invariant-loop-i l = up_to (task_right l.s) l.i ≡ true
