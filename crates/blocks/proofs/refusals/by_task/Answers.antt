-- `refusals::by_task` meets its contract: its tests are those of the definition.
use borrow.Author.Tests.{eq-eqb, ne_eqb, lt-ltb, le-ltb}
use Rattle.blocks.proofs.refusals.by_task.Goals as goal

pub returns-then-task-eq0 : goal.returns-then-task-eq0
returns-then-task-eq0 c = rw (eq-eqb _ 0 c.if-task-eq0.true)

pub returns-then-count-task : goal.returns-then-count-task
returns-then-count-task c = rw (ne_eqb _ 0 c.if-task-eq0.false, lt-ltb _ _ c.if-count-task.true)

pub returns : goal.returns
returns c = rw (ne_eqb _ 0 c.if-task-eq0.false, le-ltb _ _ c.if-count-task.false)
