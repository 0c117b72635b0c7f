-- `checking::are_none` meets its contract.
use borrow.Author.Tests.{eq-eqb, ne_eqb}
use Rattle.image.proofs.checking.are_none.Goals as goal

pub returns-then-time-ne0 : goal.returns-then-time-ne0
returns-then-time-ne0 c = rw (ne_eqb _ _ c.if-time-ne0.true)

pub returns-then-mask-ne0 : goal.returns-then-mask-ne0
returns-then-mask-ne0 c = rw (eq-eqb _ _ c.if-time-ne0.false, ne_eqb _ _ c.if-mask-ne0.true)

pub returns : goal.returns
returns c = rw (eq-eqb _ _ c.if-time-ne0.false, eq-eqb _ _ c.if-mask-ne0.false)
