-- `promises::promised` meets its contract: each promise is proved.
use Rattle.why.proofs.Assured.{promises}
use Rattle.why.proofs.promises.promised.Goals as goal

pub returns : goal.returns
returns c = promises
