-- `executive::configuration::fresh_law` meets its contract.
use Rattle.executive.proofs.promises.CardsAndFresh.{fresh_law}
use Rattle.executive.proofs.promises.fresh_law.Goals as goal

pub returns : goal.returns
returns c = fresh_law
