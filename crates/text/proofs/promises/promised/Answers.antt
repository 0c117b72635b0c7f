-- `promises::promised` meets its contract: each promise is proved.
use Rattle.text.proofs.Assured.{promises}
use Rattle.text.proofs.promises.promised.Goals as goal

pub returns : goal.returns
returns c = promises
