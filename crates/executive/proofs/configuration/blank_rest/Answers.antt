-- `executive::configuration::blank_rest` meets its contract.
use mathlib.Core.Path.{refl}
use Rattle.executive.specs.Lists.{pad}
use Rattle.executive.proofs.configuration.blank_rest.Goals as goal

pub returns : goal.returns
unfolding pad
returns c = refl
