use Rattle.image.proofs.Parts.{levels-laid}
use Rattle.image.proofs.fields.set_levels.Goals as goal

pub returns : goal.returns
returns c = λ t h. rw c.put_pair.ensures (levels-laid t h _)
