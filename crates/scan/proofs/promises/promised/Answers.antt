use Rattle.scan.proofs.Assured.{promises}
use Rattle.scan.proofs.promises.promised.Goals as goal

-- src/promises.rt:4:1
pub returns : goal.returns
returns c = promises
