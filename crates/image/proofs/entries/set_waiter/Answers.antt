use Rattle.image.proofs.EntryLaid.{waiter-laid}
use Rattle.image.proofs.entries.set_waiter.Goals as goal

pub returns : goal.returns
returns c = λ t l. waiter-laid t l c.args.i c.requires c.args.w c.put_byte.ensures
