use mathlib.Core.Path.{refl, sym, ◌∙◌}
use native.Mathlib.Omega.{arith}
use Rattle.executive.proofs.Assured.{each_turn, each-end}
use Rattle.mender.specs.Links.{runs_of}
use Rattle.mender.specs.Passes.{run_turn, linked_runs}
use Rattle.mender.proofs.links.linked_runs.Goals as goal

pub loop-i-init : goal.loop-i-init
unfolding linked_runs
loop-i-init c = refl

pub loop-i-preserved : goal.loop-i-preserved
loop-i-preserved c =
    let a = c.args in
    let v = c.loop-i in
    rw c.run_turn.ensures (sym (each_turn (run_turn a.count) 16 v.i (runs_of v.tasks v.named) (omega arith)) ∙ v.invariant)

pub returns : goal.returns
returns c =
    let a = c.args in
    let v = c.loop-i in
    sym (each-end (run_turn a.count) 16 v.i (runs_of v.tasks v.named) (omega arith)) ∙ v.invariant
