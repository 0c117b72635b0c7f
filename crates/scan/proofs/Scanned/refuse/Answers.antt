use mathlib.Core.Path.{refl}
use borrow.Author.Tests.{ne_eqb}
use Rattle.scan.specs.Step.{refused_scan}
use Rattle.scan.proofs.Scanned.refuse.Goals as goal

pub returns-then-number-eq1 : goal.returns-then-number-eq1
unfolding refused_scan
returns-then-number-eq1 c = rw (c.no_table-answer.ensures, c.if-number-eq1.true) refl

pub returns-else-number-eq1 : goal.returns-else-number-eq1
unfolding refused_scan
returns-else-number-eq1 c = rw (c.answer-answer.ensures, c.marked.ensures, c.has_v.ensures, ne_eqb _ _ c.if-number-eq1.false) refl
