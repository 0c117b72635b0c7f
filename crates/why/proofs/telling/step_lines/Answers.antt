-- `telling::step_lines` meets its contract: line after line.
use native.Mathlib.Omega.{arith}
use Rattle.text.proofs.Assured.{nothing, then, named}
use Rattle.why.proofs.Told.{lines_none, lines_more}
use Rattle.why.proofs.telling.step_lines.Goals as goal

pub loop-s-init : goal.loop-s-init
loop-s-init c =
    let a = c.args in
    (named (lines_none a.steps.now) (nothing a.out.now a.at), omega arith)

pub loop-s-preserved : goal.loop-s-preserved
loop-s-preserved c =
    let l = c.loop-s in
    let a = c.args in
    (named (lines_more a.steps.now l.s-index c.loop-s-test.true) (then l.invariant.0 c.step_line-place.ensures.0), omega (arith, l.invariant.1, c.step_line-place.ensures.1))
