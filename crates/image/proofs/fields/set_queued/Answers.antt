use Rattle.image.proofs.Parts.{queued-laid}
use Rattle.image.proofs.fields.set_queued.Goals as goal

pub returns : goal.returns
returns c = λ t h. rw c.put_byte.ensures (queued-laid t h _)
