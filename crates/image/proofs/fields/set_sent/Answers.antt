use Rattle.image.proofs.Parts.{sent-laid}
use Rattle.image.proofs.fields.set_sent.Goals as goal

pub returns : goal.returns
returns c = λ t h. rw c.put_byte.ensures (sent-laid t h _)
