use mathlib.Core.Path.{refl}
use borrow.Author.Tests.{ne_eqb}
use native.Mathlib.Omega.{arith}
use Prim.Native.Nat.{◌≤◌}
use Rattle.executive.specs.Numbers.{longest}
use Rattle.executive.specs.Decisions.{alarm_deed}
use Rattle.executive.proofs.clock.Interval.{interval-most}
use Rattle.executive.proofs.flags.alarm.Goals as goal

pub returns-then-count-eq0 : goal.returns-then-count-eq0
unfolding alarm_deed
returns-then-count-eq0 c = rw (c.accepted.ensures, c.set-deed.ensures, c.flag_marks-set_marks.ensures, c.is_set-old.ensures, ← c.bad_alarm.ensures, c.if-bad_alarm.false, c.if-running-ne0.false, c.if-count-eq0.true) refl

pub overflow_add-at : goal.overflow_add-at
overflow_add-at c =
    let b : c.millis_of-wait.result.0 ≤ longest = rw c.millis_of-wait.ensures (interval-most c.args.unit c.args.count (omega arith)) in
    omega (arith, c.requires)

pub returns : goal.returns
unfolding alarm_deed
returns c = rw (c.accepted-2.ensures, c.alone-stored.ensures, c.flag_marks-marks.ensures, c.is_set-old.ensures, c.millis_of-wait.ensures, ← c.bad_alarm.ensures, c.if-bad_alarm.false, c.if-running-ne0.false, ne_eqb _ 0 c.if-count-eq0.false) refl
