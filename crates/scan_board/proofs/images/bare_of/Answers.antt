-- `images::bare_of` meets its contract.
use mathlib.Core.Path.{ap}
use Rattle.executive.specs.Lists.{pad}
use Rattle.executive.specs.Configuration.{with_tasks}
use Rattle.scan_board.proofs.images.bare_of.Goals as goal

pub returns : goal.returns
unfolding pad
returns c = ap (λ ts. with_tasks ts c.args.table.rest) c.tasks_in.ensures
