use mathlib.Core.Path.{refl}
use native.Mathlib.Omega.{arith}
use borrow.Author.Tests.{le-ltb, ne_eqb}
use lib.Dec.{leb}
use Rattle.executive.specs.Decisions.{wakes, restart_deed}
use Rattle.executive.proofs.decisions.Listing.{listed_well, named-listed, woken-short}
use Rattle.executive.proofs.Lists.Loops.{one-le}
use Rattle.executive.proofs.calls.restart.Goals as goal

pub raised-entrants-requires : goal.raised-entrants-requires
raised-entrants-requires c =
    let a = c.args in
    let w = a.old.end_waiter in
    let r = one-le (leb c.aim_of-aim.result.at.0 a.now.0) in
    rw c.only_woken-l1.ensures (listed_well (wakes w) (omega (arith, woken-short w)), omega (arith, woken-short w, r))

pub returns : goal.returns
unfolding restart_deed
returns c =
    let a = c.aim_of-aim.ensures in
    let w = c.args.old.end_waiter in
    let m = c.restart_marks-marks.ensures c.args.old.start c.args.now c.args.count a.1 in
    rw (c.accepted.ensures, c.raised-entrants.ensures, c.only_woken-l1.ensures, m, a.0, le-ltb _ _ c.if-now-gt-END_OF_TIME.false, le-ltb _ _ c.if-now-start.false, ne_eqb _ _ c.if-param-eq3.false, c.if-holding.false, named-listed (wakes w)) refl
