use native.Mathlib.Omega.{arith}
use Rattle.executive.proofs.clock.Division.{fits, doubled, times-low, left, taken, ended}
use Rattle.executive.proofs.clock.split.Goals as goal

pub loop-step-preserved : goal.loop-step-preserved
loop-step-preserved c =
    let v = c.loop-step in
    rw (fits v.step (omega arith)) (doubled v.invariant)

pub loop-step-2-preserved-then-step-rest : goal.loop-step-2-preserved-then-step-rest
loop-step-2-preserved-then-step-rest c =
    let v = c.loop-step-2 in
    let p = c.requires in
    rw (fits v.times (times-low v.invariant p.1)) (taken v.invariant c.loop-step-2-test.true (omega arith))

pub loop-step-2-preserved : goal.loop-step-2-preserved
loop-step-2-preserved c =
    let v = c.loop-step-2 in
    let p = c.requires in
    rw (fits v.times (times-low v.invariant p.1)) (left v.invariant c.loop-step-2-test.true (omega arith))

pub returns : goal.returns
returns c = ended c.loop-step-2.invariant (omega arith)
