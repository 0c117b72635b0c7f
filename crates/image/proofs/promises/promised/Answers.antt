-- `promises::promised`: the promises hold.
use Rattle.image.proofs.Assured.{promises, why_promises, mend_promises, acting_promises}
use Rattle.image.proofs.promises.promised.Goals as goal

pub returns : goal.returns
returns c = (promises, why_promises, mend_promises, acting_promises)
