-- Of an alarm that is running the time alone is read: it is due where that has come.
use Rattle.image.proofs.RingLaid.{due-by}
use Rattle.image.proofs.ringing.is_due.Goals as goal

pub returns : goal.returns
returns c = λ t l z. due-by t l c.args.i c.requires c.args.time _ c.long_in.ensures z
