-- `lists::address_of` meets its contract: a task from 1 on stands at its place, and one past the list has 0.
use Rattle.blocks.proofs.Places.{address-some, address-none}
use Rattle.blocks.proofs.lists.address_of.Goals as goal

pub returns-then-task-eq0 : goal.returns-then-task-eq0
returns-then-task-eq0 c = rw c.if-task-eq0.true

pub returns-then-i-list : goal.returns-then-i-list
returns-then-i-list c = address-some c.args.list.now c.args.task c.if-task-eq0.false

pub returns : goal.returns
returns c = address-none c.args.list.now c.args.task c.if-i-list.false
