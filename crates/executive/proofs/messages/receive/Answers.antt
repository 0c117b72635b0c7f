use mathlib.Core.Path.{refl}
use borrow.Author.Tests.{le-ltb}
use Rattle.executive.specs.Decisions.{receive_deed}
use Rattle.executive.proofs.messages.receive.Goals as goal

pub returns : goal.returns
unfolding receive_deed
returns c =
    rw (c.accepted.ensures, c.receiving-deed.ensures, c.handing-marks.ensures, c.message_at-m.ensures, c.first_fit-i.ensures, le-ltb _ _ c.if-count-s.false) refl
