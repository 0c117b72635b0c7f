use Rattle.image.proofs.Parts.{clock-laid}
use Rattle.image.proofs.fields.set_clock.Goals as goal

pub returns : goal.returns
returns c = λ t h. rw c.put_long.ensures (clock-laid t h c.args.time)
