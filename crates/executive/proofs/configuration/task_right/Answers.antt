-- `executive::configuration::task_right` meets its contract.
use mathlib.Core.Path.{refl}
use borrow.Author.Tests.{le-leb, lt-leb}
use Rattle.executive.specs.Configuration.{task_right}
use Rattle.executive.proofs.configuration.task_right.Goals as goal

pub returns-then-own_in-le15 : goal.returns-then-own_in-le15
unfolding task_right
returns-then-own_in-le15 c = rw (← c.own_in.ensures, le-leb c.own_in.result 15 c.if-own_in-le15.true, c.mark_in.ensures) refl

pub returns-else-own_in-le15 : goal.returns-else-own_in-le15
unfolding task_right
returns-else-own_in-le15 c = rw (← c.own_in.ensures, lt-leb c.own_in.result 15 c.if-own_in-le15.false) refl
