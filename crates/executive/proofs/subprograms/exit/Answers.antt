use mathlib.Core.Path.{refl, sym}
use borrow.Author.Tests.{le-ltb, eq-eqb}
use Rattle.executive.specs.Decisions.{exit_deed}
use Rattle.executive.proofs.subprograms.exit.Goals as goal

pub returns : goal.returns
unfolding exit_deed
returns c = rw (c.accepted.ensures, c.only_woken-entrants.ensures, c.first-w.ensures, c.only_z-marks.ensures, le-ltb _ _ c.if-m-gt7.false, sym c.if-ne.ensures) refl
