use mathlib.Core.Path.{refl, sym}
use borrow.Author.Tests.{le-ltb, eq-eqb, ne_eqb}
use Rattle.executive.specs.Decisions.{enter_deed}
use Rattle.executive.proofs.subprograms.enter.Goals as goal

pub returns-then-s-eq0 : goal.returns-then-s-eq0
unfolding enter_deed
returns-then-s-eq0 c = rw (c.accepted.ensures, c.alone-gets_in.ensures, c.only_z-marks.ensures, le-ltb _ _ c.if-m-gt7.false, sym c.if-eq.ensures, eq-eqb _ _ c.if-s-eq0.true) refl

pub returns : goal.returns
unfolding enter_deed
returns c = rw (c.accepted-2.ensures, c.alone-waits.ensures, c.ahead-at.ensures, c.read_at-e.ensures, c.only_z-marks.ensures, le-ltb _ _ c.if-m-gt7.false, sym c.if-eq.ensures, ne_eqb _ _ c.if-s-eq0.false) refl
