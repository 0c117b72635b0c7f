use mathlib.Core.Path.{refl}
use Rattle.executive.specs.Decisions.{cancel_pause_deed}
use Rattle.executive.proofs.calls.cancel_pause.Goals as goal

pub returns-then-is_paused : goal.returns-then-is_paused
unfolding cancel_pause_deed
returns-then-is_paused c = rw (c.accepted.ensures, c.also-entrants.ensures, c.none-l.ensures, c.only_z-marks.ensures, ← c.no_such_task.ensures, c.if-no_such_task.false, ← c.is_paused.ensures, c.if-is_paused.true) refl

pub returns : goal.returns
unfolding cancel_pause_deed
returns c = rw (c.accepted-2.ensures, c.nothing-still.ensures, c.only_z-z.ensures, ← c.no_such_task.ensures, c.if-no_such_task.false, ← c.is_paused.ensures, c.if-is_paused.false) refl
