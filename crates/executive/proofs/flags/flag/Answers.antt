use mathlib.Core.Path.{refl}
use borrow.Author.Tests.{ne_eqb}
use Rattle.executive.specs.Decisions.{flag_deed}
use Rattle.executive.proofs.flags.flag.Goals as goal

pub returns-then-operation-eq0 : goal.returns-then-operation-eq0
unfolding flag_deed
returns-then-operation-eq0 c = rw (c.accepted.ensures, c.alone-reset.ensures, c.flag_reset-less.ensures, c.flag_marks-marks.ensures, c.is_set-old.ensures, ← c.bad_flag.ensures, c.if-bad_flag.false, c.if-operation-eq0.true) refl

pub returns-then-operation-eq1 : goal.returns-then-operation-eq1
unfolding flag_deed
returns-then-operation-eq1 c = rw (c.accepted-then-operation-eq1.ensures, c.set-deed.ensures, c.flag_marks-marks.ensures, c.is_set-old.ensures, ← c.bad_flag.ensures, c.if-bad_flag.false, c.if-operation-eq1.true) refl

pub returns : goal.returns
unfolding flag_deed
returns c = rw (c.accepted-2.ensures, c.nothing-still.ensures, c.flag_marks-marks.ensures, c.is_set-old.ensures, ← c.bad_flag.ensures, c.if-bad_flag.false, ne_eqb _ 0 c.if-operation-eq0.false, ne_eqb _ 1 c.if-operation-eq1.false) refl
