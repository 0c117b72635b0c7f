use Rattle.executive.proofs.states.Laws.{states-told}
use Rattle.executive.proofs.promises.states_told.Goals as goal

pub returns : goal.returns
returns c = states-told
