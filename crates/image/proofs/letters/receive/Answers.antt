use mathlib.Core.Path.{◌∙◌}
use Rattle.image.proofs.ReadOff.{sent-read}
use Rattle.image.proofs.Finds.{count-read}
use Rattle.image.proofs.Sheets.{receive-bad, receive-done}
use Rattle.image.proofs.letters.receive.Goals as goal

pub returns-then-b-s : goal.returns-then-b-s
returns-then-b-s c = λ t l w. c.refuse.ensures ∙ receive-bad t.tasks t.rest c.args.c c.args.s (rw (count-read t l) at c.if-b-s.true)

pub returns : goal.returns
returns c =
    let a = c.args in
    λ t l w.
    let q = w.numbers.sent in
    let en = c.at_most-n.ensures.value (rw (sent-read t l) q) ∙ sent-read t l in
    rw (c.accepted.ensures, c.receiving-deed.ensures, c.handing-marks.ensures, c.message_at-m.ensures t l)
    (receive-done t.tasks t.rest a.c a.s (rw (count-read t l) at c.if-b-s.false) l.sizes.messages q _ _ en (c.first_fit-i.ensures t l))
