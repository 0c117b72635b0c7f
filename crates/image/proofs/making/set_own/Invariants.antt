-- `making::set_own` meets its contract. The invariant: the tasks up to i have their own priorities.
use mathlib.Core.Path.{◌≡◌}
use mathlib.Core.List.{[]}
use lib.ListN.{length}
use Rattle.executive.specs.declared.Table.{Table}
use Rattle.executive.specs.Lists.{pad}
use Rattle.executive.specs.Places.{no_task}
use Rattle.executive.specs.Configuration.{sleepers}
use Rattle.image.specs.Image.{image_length}
use Rattle.image.specs.Laid.{Laid, with_tasks}
use Rattle.image.proofs.making.set_own.Given as goal

abbrev pub invariant-loop-i : goal.invariant-loop-i
invariant-loop-i l =
    (length l.b ≡ image_length) × ((t : Table) → Laid l.initial.b t → t.tasks ≡ pad 16 no_task [] → Laid l.b (with_tasks (pad 16 no_task (sleepers l.config l.i 1)) t))
