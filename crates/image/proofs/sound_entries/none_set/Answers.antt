-- `sound_entries::none_set` meets its contract.
use borrow.Author.Tests.{lt-ltb, le-ltb}
use Rattle.image.proofs.sound_entries.none_set.Goals as goal

pub returns-then-mask-gt0 : goal.returns-then-mask-gt0
returns-then-mask-gt0 c = rw (lt-ltb _ _ c.if-mask-gt0.true)

pub returns-else-mask-gt0 : goal.returns-else-mask-gt0
returns-else-mask-gt0 c = rw (le-ltb _ _ c.if-mask-gt0.false)
