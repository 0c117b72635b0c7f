-- `promises::told_shown` meets its contract: the text is within its buffer, and there are no two outcomes.
use Rattle.mender.proofs.Assured.{told_law}
use Rattle.mender.proofs.promises.told_shown.Goals as goal

pub returns : goal.returns
returns c = told_law
