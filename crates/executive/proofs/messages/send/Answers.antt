use mathlib.Core.Path.{refl}
use borrow.Author.Tests.{lt-leb}
use Rattle.executive.specs.Decisions.{send_deed}
use Rattle.executive.proofs.messages.send.Goals as goal

pub returns-then-takes : goal.returns-then-takes
unfolding send_deed
returns-then-takes c = rw (c.accepted.ensures, c.only_woken-entrants.ensures, ← c.takes.ensures, c.if-takes.true, c.only_z-marks.ensures, ← c.no_such_task.ensures, c.if-no_such_task.false) refl

pub returns : goal.returns
unfolding send_deed
returns c = rw (c.accepted-2.ensures, c.alone-deed.ensures, c.ahead-at.ensures, ← c.takes.ensures, c.if-takes.false, lt-leb _ _ c.if-letters-ge32.false, c.only_z-marks.ensures, ← c.no_such_task.ensures, c.if-no_such_task.false) refl
