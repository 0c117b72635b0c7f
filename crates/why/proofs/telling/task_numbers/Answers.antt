-- `telling::task_numbers` meets its contract: task after task.
use native.Mathlib.Omega.{arith}
use Rattle.text.proofs.Assured.{nothing, then, named}
use Rattle.why.proofs.Told.{numbers-none, numbers_more}
use Rattle.why.proofs.telling.task_numbers.Goals as goal

pub loop-s-init : goal.loop-s-init
loop-s-init c =
    let a = c.args in
    (named (numbers-none a.steps.now) (nothing a.out.now a.at), omega arith)

pub loop-s-preserved : goal.loop-s-preserved
loop-s-preserved c =
    let l = c.loop-s in
    let a = c.args in
    (named (numbers_more a.steps.now l.s-index c.loop-s-test.true) (then l.invariant.0 c.worded-place.ensures.0), omega (arith, l.invariant.1, c.worded-place.ensures.1))
