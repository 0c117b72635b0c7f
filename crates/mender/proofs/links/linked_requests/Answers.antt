use mathlib.Core.Path.{refl, sym, ◌∙◌}
use native.Mathlib.Omega.{arith}
use Rattle.executive.proofs.Assured.{each_turn, each-end}
use Rattle.mender.specs.Links.{links_of}
use Rattle.mender.specs.Passes.{request_turn, linked_requests}
use Rattle.mender.proofs.CodeLinks.{request_turned}
use Rattle.mender.proofs.links.linked_requests.Goals as goal

pub loop-q-init : goal.loop-q-init
unfolding linked_requests
loop-q-init c = refl

pub loop-q-preserved : goal.loop-q-preserved
loop-q-preserved c =
    let a = c.args in
    let v = c.loop-q in
    let e = request_turned a.count a.tasks v.pool v.named v.q-index _ _ _ _ c.start_turn.ensures c.end_turn.ensures in
    rw e (sym (each_turn (request_turn a.count a.tasks) 32 v.q-index (links_of v.pool v.named) (omega arith)) ∙ v.invariant)

pub returns : goal.returns
returns c =
    let a = c.args in
    let v = c.loop-q in
    sym (each-end (request_turn a.count a.tasks) 32 v.q-index (links_of v.pool v.named) (omega arith)) ∙ v.invariant
