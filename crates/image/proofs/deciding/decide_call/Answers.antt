-- Where nobody is active the call is refused with 5, as its definition has it; else its kind decides.
use mathlib.Core.Path.{refl}
use Rattle.executive.specs.Sheet.{decision_of}
use Rattle.image.proofs.deciding.decide_call.Goals as goal

pub returns-then-nobody_active : goal.returns-then-nobody_active
unfolding decision_of
returns-then-nobody_active c = λ t l w k. rw (c.refuse.ensures, ← c.nobody_active.ensures t.tasks t.rest, c.if-nobody_active.true) refl

pub returns : goal.returns
unfolding decision_of
returns c = λ t l w k. rw (← c.nobody_active.ensures t.tasks t.rest, c.if-nobody_active.false) (c.by_kind.ensures t l w k)
