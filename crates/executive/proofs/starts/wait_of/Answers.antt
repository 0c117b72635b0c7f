use borrow.Author.Tests.{ne_eqb}
use Rattle.executive.specs.Plans.{wait_of}
use Rattle.executive.proofs.starts.wait_of.Goals as goal

pub returns-then-option-eq1 : goal.returns-then-option-eq1
unfolding wait_of
returns-then-option-eq1 c = simp c.if-option-eq1.true

pub returns-then-option-eq1-2 : goal.returns-then-option-eq1-2
unfolding wait_of
returns-then-option-eq1-2 c = simp (ne_eqb _ _ c.if-option-eq1.false, c.if-option-eq1-2.true)

pub returns : goal.returns
unfolding wait_of
returns c = simp (ne_eqb _ _ c.if-option-eq1.false, ne_eqb _ _ c.if-option-eq1-2.false)
