use mathlib.Core.Path.{sym, ◌∙◌}
use Rattle.executive.proofs.decisions.CanBeDone.{judgeable}
use Rattle.executive.proofs.decisions.OfBytes.{for_right, for_broken, for_stranger}
use Rattle.executive.proofs.deciding.decide.Goals as goal

pub returns-then-not-all_but_queue : goal.returns-then-not-all_but_queue
returns-then-not-all_but_queue c =
    let a = c.args in
    c.refuse.ensures
    ∙ for_broken a.tasks a.rest a.caller a.bytes.now (sym c.all_but_queue.ensures ∙ c.if-not-all_but_queue.true)

pub returns-then-not-caller_right : goal.returns-then-not-caller_right
returns-then-not-caller_right c =
    let a = c.args in
    c.refuse-then-not-caller_right.ensures
    ∙ for_stranger a.tasks a.rest a.caller a.bytes.now (sym c.caller_right.ensures ∙ c.if-not-caller_right.true)

pub decide_record-requires : goal.decide_record-requires
decide_record-requires c =
    let a = c.args in
    judgeable a.tasks a.rest a.caller (sym c.all_but_queue.ensures ∙ c.if-not-all_but_queue.false)

pub returns : goal.returns
returns c =
    let a = c.args in
    for_right a.tasks a.rest a.caller a.bytes.now _
    (sym c.all_but_queue.ensures ∙ c.if-not-all_but_queue.false)
    (sym c.caller_right.ensures ∙ c.if-not-caller_right.false)
    c.decide_record.ensures
