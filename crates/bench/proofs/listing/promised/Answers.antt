use Rattle.bench.proofs.Whole.{promise}
use Rattle.bench.proofs.listing.promised.Goals as goal

pub returns : goal.returns
returns c = promise
