use Rattle.image.proofs.EntryLaid.{start-laid}
use Rattle.image.proofs.entries.set_start.Goals as goal

pub returns : goal.returns
returns c = λ t l. start-laid t l c.args.i c.requires c.args.start c.put_long.ensures
