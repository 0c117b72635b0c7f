use borrow.Author.Tests.{ne_eqb}
use Rattle.executive.specs.Plans.{argument_of}
use Rattle.executive.proofs.starts.argument_of.Goals as goal

pub returns-then-option-eq1 : goal.returns-then-option-eq1
unfolding argument_of
returns-then-option-eq1 c = simp c.if-option-eq1.true

pub returns : goal.returns
unfolding argument_of
returns c = simp (ne_eqb _ _ c.if-option-eq1.false)
