-- `making::clear` meets its contract.
use mathlib.Core.Path.{ap, ◌∙◌}
use lib.ListN.{replicate}
use Rattle.image.proofs.FreshLaid.{zero-laid}
use Rattle.image.proofs.making.clear.Goals as goal

pub returns : goal.returns
returns c = zero-laid (c.fill.ensures.after (λ y e. e) ∙ ap (λ n. replicate n 0) c.told-b)
