use Rattle.executive.proofs.check.Decides.{decided}
use Rattle.executive.proofs.check.Broken.{broken}
use Rattle.executive.proofs.promises.check_shown.Goals as goal

pub returns : goal.returns
returns c = (decided, broken)
