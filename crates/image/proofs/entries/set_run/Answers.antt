use Rattle.image.proofs.EntryLaid.{run-laid}
use Rattle.image.proofs.entries.set_run.Goals as goal

pub returns : goal.returns
returns c = λ t l. run-laid t l c.args.i c.requires c.args.q c.args.start c.put_run.ensures
