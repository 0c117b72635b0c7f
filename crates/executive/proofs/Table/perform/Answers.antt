use mathlib.Core.Path.{◌≡◌, ap, ◌∙◌}
use Rattle.executive.specs.declared.decisions.Decision.{Decision}
use Rattle.executive.specs.Table.{Plan, apply_in_flight}
use Rattle.executive.specs.Decisions.{meant}
use Rattle.executive.specs.Sheet.{plan_of}
use Rattle.executive.specs.Refusals.{call_in}
use Rattle.executive.specs.Step.{accepted}
use Rattle.executive.proofs.step.CodeIsStep.{none-refuses}
use Rattle.executive.proofs.step.ByDecision.{Accepts, Follows, follows}
use Rattle.executive.proofs.decisions.DeedIsPlan.{means}
use Rattle.executive.proofs.decisions.CanBeDone.{doable}
use Rattle.executive.proofs.Table.perform.Goals as goal

pub returns-then-d-ne0 : goal.returns-then-d-ne0
returns-then-d-ne0 c =
    let t = c.args.self in
    let b = c.args.bytes.now in
    let f : Follows t b c.decide-d.result = rw (c.decide-d.ensures, c.active-c.ensures) (follows t b c.requires) in
    c.refuse.ensures ∙ f.refuses c.if-d-ne0.true

pub execute-w-requires : goal.execute-w-requires
execute-w-requires c =
    let t = c.args.self in
    let b = c.args.bytes.now in
    let f : Follows t b c.decide-d.result = rw (c.decide-d.ensures, c.active-c.ensures) (follows t b c.requires) in
    let a : Accepts t b c.decide-d.result = f.accepts c.if-d-ne0.false in
    rw a.said (doable t a.formed (call_in b) a.early)

pub returns : goal.returns
unfolding accepted
returns c =
    let t = c.args.self in
    let b = c.args.bytes.now in
    let k = call_in b in
    let f : Follows t b c.decide-d.result = rw (c.decide-d.ensures, c.active-c.ensures) (follows t b c.requires) in
    let a : Accepts t b c.decide-d.result = f.accepts c.if-d-ne0.false in
    let h : c.execute-w.result ≡ apply_in_flight (plan_of t k) t =
    c.execute-w.ensures ∙ ap (λ (d : Decision). apply_in_flight (meant d.deed t) t) a.said ∙ ap (λ (p : Plan). apply_in_flight p t) (means t k) in
    rw (c.answer-answer.ensures, h, a.said) (none-refuses t k a.early ∙ a.step)
