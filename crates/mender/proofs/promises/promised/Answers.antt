-- `promises::promised` meets its contract: each promise is proved.
use Rattle.mender.proofs.Assured.{promises}
use Rattle.mender.proofs.promises.promised.Goals as goal

pub returns : goal.returns
returns c = promises
