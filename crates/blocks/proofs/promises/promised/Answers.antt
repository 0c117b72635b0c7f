-- `promises::promised` meets its contract: each promise is proved.
use Rattle.blocks.proofs.Assured.{promises}
use Rattle.blocks.proofs.promises.promised.Goals as goal

pub returns : goal.returns
returns c = promises
