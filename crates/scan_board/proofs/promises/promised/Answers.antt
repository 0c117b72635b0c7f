-- `promises::promised`: the promises hold.
use Rattle.scan_board.proofs.Assured.{promises}
use Rattle.scan_board.proofs.promises.promised.Goals as goal

pub returns : goal.returns
returns c = promises
