-- `lists::is_bad` meets its contract: its test picks the case of `is_bad`.
use borrow.Author.Tests.{lt-ltb, le-ltb}
use Rattle.blocks.specs.Lists.{is_bad}
use Rattle.blocks.proofs.lists.is_bad.Goals as goal

pub returns-then-list-gt-MOST_TASKS : goal.returns-then-list-gt-MOST_TASKS
unfolding is_bad
returns-then-list-gt-MOST_TASKS c = rw (lt-ltb _ _ c.if-list-gt-MOST_TASKS.true)

pub returns : goal.returns
unfolding is_bad
returns c = rw (le-ltb _ _ c.if-list-gt-MOST_TASKS.false) c.has_repeat.ensures
