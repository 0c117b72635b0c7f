use native.Mathlib.Omega.{arith}
use Rattle.image.proofs.RestLaid.{mail_put_laid, mail-none-laid}
use Rattle.image.proofs.fields.set_mail.Goals as goal

pub returns-then-i-gt15 : goal.returns-then-i-gt15
returns-then-i-gt15 c = λ t h. mail-none-laid t h _ _ c.place-i.ensures _ c.if-i-gt15.true

pub returns : goal.returns
returns c = λ t h. rw c.put_mail.ensures (mail_put_laid t h _ _ c.place-i.ensures _ (omega (arith, c.if-i-gt15.false)))
