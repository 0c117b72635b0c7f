-- `why` meets its contract: its two outcomes are the definition's.
use Rattle.image.proofs.Answered.{why_short, why_told}
use Rattle.image.proofs.why.Goals as goal

pub returns-then-out-lt196 : goal.returns-then-out-lt196
returns-then-out-lt196 c =
    let a = c.args in
    let e = why_short a.image.now (record { 0 = a.task }) a.out.now c.if-out-lt196.true in
    record { number = e.0; answer = e.1 }

pub returns : goal.returns
returns c =
    let a = c.args in
    let e =
    why_told a.image.now (record { 0 = a.task }) a.out.now c.reasons_of-told.result c.if-out-lt196.false
    c.reasons_of-told.ensures c.put_reasons.ensures in
    record { number = e.0; answer = e.1 }
