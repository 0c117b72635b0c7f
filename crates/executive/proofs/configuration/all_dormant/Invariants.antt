-- `executive::configuration::all_dormant` meets its contract.
use mathlib.Core.Path.{◌≡◌}
use Rattle.executive.specs.Places.{no_task}
use Rattle.executive.specs.Lists.{pad}
use Rattle.executive.specs.Configuration.{sleepers}
use Rattle.executive.proofs.configuration.all_dormant.Given as goal

abbrev pub invariant-loop-i : goal.invariant-loop-i
invariant-loop-i l = l.tasks ≡ pad 16 no_task (sleepers l.s l.i 1)
