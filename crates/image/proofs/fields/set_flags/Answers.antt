use Rattle.image.proofs.Parts.{flags-laid}
use Rattle.image.proofs.fields.set_flags.Goals as goal

pub returns : goal.returns
returns c = λ t h. rw c.put_word.ensures (flags-laid t h _)
