use borrow.Author.Tests.{lt-ltb, le-ltb}
use Rattle.executive.specs.Plans.{priority_of}
use Rattle.executive.proofs.starts.priority_of.Goals as goal

pub returns-then-option-lt128 : goal.returns-then-option-lt128
unfolding priority_of
returns-then-option-lt128 c = simp (lt-ltb _ _ c.if-option-lt128.true)

pub returns : goal.returns
unfolding priority_of
returns c = simp (le-ltb _ _ c.if-option-lt128.false)
