use mathlib.Core.Path.{refl}
use native.Mathlib.Omega.{arith}
use borrow.Author.Tests.{le-ltb, ne_eqb}
use Prim.Native.Nat.{◌≤◌}
use Rattle.executive.specs.Decisions.{pause_deed}
use Rattle.executive.specs.Numbers.{longest}
use Rattle.executive.proofs.clock.Interval.{interval-most}
use Rattle.executive.proofs.calls.pause.Goals as goal

pub returns-then-count-eq0 : goal.returns-then-count-eq0
unfolding pause_deed
returns-then-count-eq0 c = rw (c.accepted.ensures, c.nothing-still.ensures, c.only_z-z.ensures, le-ltb _ _ c.if-now-gt-END_OF_TIME.false, le-ltb _ _ c.if-unit-gt-LAST_UNIT.false, c.if-count-eq0.true) refl

pub overflow_add-until : goal.overflow_add-until
overflow_add-until c =
    let b : c.millis_of-wait.result.0 ≤ longest = rw c.millis_of-wait.ensures (interval-most c.args.unit c.args.count (omega (arith, c.if-unit-gt-LAST_UNIT.false))) in
    omega (arith, c.if-now-gt-END_OF_TIME.false)

pub returns : goal.returns
unfolding pause_deed
returns c = rw (c.accepted-2.ensures, c.alone-deed.ensures, c.only_z-marks.ensures, c.millis_of-wait.ensures, le-ltb _ _ c.if-now-gt-END_OF_TIME.false, le-ltb _ _ c.if-unit-gt-LAST_UNIT.false, ne_eqb _ _ c.if-count-eq0.false) refl
