-- `refusals::by_parameter` meets its contract: its tests are those of the definition.
use borrow.Author.Tests.{eq-eqb, ne_eqb}
use Rattle.blocks.proofs.refusals.by_parameter.Goals as goal

pub returns-then-parameter-eq1 : goal.returns-then-parameter-eq1
returns-then-parameter-eq1 c = rw (eq-eqb _ 1 c.if-parameter-eq1.true)

pub returns-then-parameter-eq5 : goal.returns-then-parameter-eq5
returns-then-parameter-eq5 c = rw (ne_eqb _ 1 c.if-parameter-eq1.false, eq-eqb _ 5 c.if-parameter-eq5.true)

pub returns : goal.returns
returns c = rw (ne_eqb _ 1 c.if-parameter-eq1.false, ne_eqb _ 5 c.if-parameter-eq5.false)
