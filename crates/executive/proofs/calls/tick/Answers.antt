use mathlib.Core.Path.{refl, ap}
use borrow.Author.Tests.{le-ltb}
use Prim.Native.Nat.{◌+◌, ◌≤◌}
use Rattle.executive.specs.Numbers.{end_of_time}
use Rattle.executive.specs.Sheet.{only_z}
use mathlib.Core.Bool.{false}
use Rattle.executive.specs.Decisions.{doing}
use Rattle.executive.proofs.calls.Ticking.{ticks}
use Rattle.executive.proofs.calls.tick.Goals as goal

pub returns : goal.returns
returns c = λ q ea ec eg ef.
    let a = c.args in
    let h : a.clock.0 + a.granule ≤ end_of_time = rw c.granule_of-length.ensures at c.if-now-gt-END_OF_TIME.false in
    rw (c.accepted.ensures, c.woken-entrants.ensures, c.only_z-marks.ensures, c.rings-more.ensures, c.first_due-first.ensures, c.granule_of-length.ensures, le-ltb end_of_time (a.clock.0 + a.granule) h, ← ea, ← ec, ← eg, ← ef)
    (ap (doing (only_z false)) (ticks a.tasks.now q (q.clock.0 + q.granule) refl))
