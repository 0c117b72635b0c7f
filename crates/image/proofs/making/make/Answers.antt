-- `making::make` meets its contract.
use Rattle.image.proofs.FreshLaid.{fresh-laid}
use Rattle.image.proofs.making.make.Goals as goal

pub returns : goal.returns
returns c =
    let n = c.tasks_in-n.ensures in
    fresh-laid _ _ _ n.0 n.1 c.byte_at-granule.ensures c.clear.ensures c.set_sizes.ensures c.set_own.ensures c.start_marked.ensures
