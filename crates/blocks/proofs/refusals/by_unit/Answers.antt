-- `refusals::by_unit` meets its contract: its test is that of the definition.
use borrow.Author.Tests.{eq-eqb, ne_eqb}
use Rattle.blocks.proofs.refusals.by_unit.Goals as goal

pub returns-then-unit-eq5 : goal.returns-then-unit-eq5
returns-then-unit-eq5 c = rw (eq-eqb _ 5 c.if-unit-eq5.true)

pub returns : goal.returns
returns c = rw (ne_eqb _ 5 c.if-unit-eq5.false)
