use Rattle.image.proofs.Parts.{alarm-laid}
use Rattle.image.proofs.fields.set_alarm.Goals as goal

pub returns : goal.returns
returns c = λ t h. rw c.put_alarm.ensures (alarm-laid t h _ _ c.requires)
