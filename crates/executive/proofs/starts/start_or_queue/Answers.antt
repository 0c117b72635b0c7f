use mathlib.Core.Path.{refl}
use borrow.Author.Tests.{lt-leb}
use Rattle.executive.specs.Decisions.{start_or_queue_deed, asked_by}
use Rattle.executive.proofs.starts.start_or_queue.Goals as goal

pub returns-then-is_dormant : goal.returns-then-is_dormant
unfolding start_or_queue_deed asked_by
returns-then-is_dormant c = rw (c.accepted.ensures, c.start_now-deed.ensures, c.only_z-marks.ensures, c.request-q.ensures, c.priority_of-priority.ensures, c.argument_of-a.ensures, c.wait_of-wt.ensures, ← c.bad_queue.ensures, c.if-bad_queue.false, ← c.names_caller.ensures, c.if-names_caller.false, ← c.is_dormant.ensures, c.if-is_dormant.true) refl

pub returns : goal.returns
unfolding start_or_queue_deed asked_by
returns c = rw (c.accepted-2.ensures, c.start_later-later.ensures, c.only_z-z.ensures, c.request-q.ensures, c.priority_of-priority.ensures, c.argument_of-a.ensures, c.wait_of-wt.ensures, ← c.bad_queue.ensures, c.if-bad_queue.false, ← c.names_caller.ensures, c.if-names_caller.false, ← c.is_dormant.ensures, c.if-is_dormant.false, lt-leb _ _ c.if-queued-ge32.false) refl
