-- `making::set_sizes` meets its contract.
use Rattle.image.proofs.FreshLaid.{sizes-laid}
use Rattle.image.proofs.making.set_sizes.Goals as goal

pub returns : goal.returns
returns c = λ l. sizes-laid _ _ l c.put_byte.ensures c.put_byte-2.ensures
