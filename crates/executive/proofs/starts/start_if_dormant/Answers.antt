use mathlib.Core.Path.{refl}
use Rattle.executive.specs.Decisions.{start_if_dormant_deed}
use Rattle.executive.proofs.starts.start_if_dormant.Goals as goal

pub returns-then-is_dormant : goal.returns-then-is_dormant
unfolding start_if_dormant_deed
returns-then-is_dormant c = rw (c.accepted.ensures, c.start_now-deed.ensures, c.only_z-marks.ensures, c.request-q.ensures, c.priority_of-priority.ensures, ← c.bad_start.ensures, c.if-bad_start.false, ← c.is_dormant.ensures, c.if-is_dormant.true) refl

pub returns : goal.returns
unfolding start_if_dormant_deed
returns c = rw (c.accepted-2.ensures, c.nothing-still.ensures, c.only_z-z.ensures, ← c.bad_start.ensures, c.if-bad_start.false, ← c.is_dormant.ensures, c.if-is_dormant.false) refl
