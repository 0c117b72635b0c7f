-- `step` meets its contract: a short buffer for the answer is refused before all, and else the answer is written there.
use native.Mathlib.Omega.{arith}
use Rattle.image.proofs.Answered.{step-short, step-acted}
use Rattle.image.proofs.step.Goals as goal

pub returns-then-answer-lt25 : goal.returns-then-answer-lt25
returns-then-answer-lt25 c =
    let a = c.args in
    let e = step-short a.image.now a.call.now a.answer.now c.if-answer-lt25.true in
    record { number = e.0; image = e.1.0; answer = e.1.1; holds = λ z. absurd (omega arith) }

pub returns : goal.returns
returns c =
    let a = c.args in
    let e = step-acted a.image.now a.call.now a.answer.now c.if-answer-lt25.false c.act-said.ensures c.put_answer.ensures in
    record { number = e.0; image = e.1.0; answer = e.1.1; holds = c.act-said.ensures.holds }
