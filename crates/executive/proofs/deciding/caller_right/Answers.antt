use mathlib.Core.Path.{refl}
use borrow.Author.Tests.{eq-eqb, ne_eqb}
use Rattle.executive.proofs.deciding.caller_right.Goals as goal

pub returns-then-c-eq0 : goal.returns-then-c-eq0
returns-then-c-eq0 c = rw (eq-eqb _ _ c.if-c-eq0.true) refl

pub returns : goal.returns
returns c = rw (c.is_of.ensures, c.task_at-e.ensures, ne_eqb _ _ c.if-c-eq0.false) refl
