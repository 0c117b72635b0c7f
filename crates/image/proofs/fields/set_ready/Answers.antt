use Rattle.image.proofs.Parts.{ready-laid}
use Rattle.image.proofs.fields.set_ready.Goals as goal

pub returns : goal.returns
returns c = λ t h. rw c.put_byte.ensures (ready-laid t h _)
