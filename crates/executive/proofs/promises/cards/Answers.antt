-- `executive::configuration::cards` meets its contract.
use Rattle.executive.proofs.promises.CardsAndFresh.{cards}
use Rattle.executive.proofs.promises.cards.Goals as goal

pub returns : goal.returns
returns c = cards
