-- `loading::message_in` meets its contract: each number is read where the widths put it.
use mathlib.Core.Path.{refl}
use Rattle.image.proofs.loading.message_in.Goals as goal

pub returns : goal.returns
returns c =
    rw (c.long_in-text.ensures, c.byte_in-priority.ensures, c.byte_in-sender.ensures, c.byte_in-to.ensures) refl
