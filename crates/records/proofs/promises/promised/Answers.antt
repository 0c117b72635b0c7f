-- `promises::promised` meets its contract: each promise is proved.
use Rattle.records.proofs.Assured.{promises}
use Rattle.records.proofs.promises.promised.Goals as goal

pub returns : goal.returns
returns c = promises
