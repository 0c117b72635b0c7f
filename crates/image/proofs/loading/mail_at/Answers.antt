-- `loading::mail_at` meets its contract: each number is read where the widths put it.
use mathlib.Core.Path.{refl}
use Rattle.image.proofs.loading.mail_at.Goals as goal

pub returns : goal.returns
returns c = rw (c.long_in-text.ensures, c.byte_in-sender.ensures) refl
