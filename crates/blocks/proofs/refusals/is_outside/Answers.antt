-- `refusals::is_outside` meets its contract: its test is that of the definition.
use borrow.Author.Tests.{lt-ltb, le-ltb}
use Rattle.blocks.proofs.refusals.is_outside.Goals as goal

pub returns-then-n-gt-LONGEST : goal.returns-then-n-gt-LONGEST
returns-then-n-gt-LONGEST c = rw (lt-ltb _ _ c.if-n-gt-LONGEST.true)

pub returns : goal.returns
returns c = rw (le-ltb _ _ c.if-n-gt-LONGEST.false)
