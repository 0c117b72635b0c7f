-- `executive::configuration::table_of` meets its contract.
use mathlib.Core.Path.{refl}
use Rattle.executive.specs.Lists.{pad}
use Rattle.executive.proofs.configuration.table_of.Goals as goal

pub returns : goal.returns
unfolding pad
returns c = refl
