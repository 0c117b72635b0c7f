use native.Mathlib.Omega.{arith}
use Rattle.text.proofs.Assured.{nothing, then, named}
use Rattle.mender.proofs.Told.{lines_none, lines_more}
use Rattle.mender.proofs.telling.note_lines.Goals as goal

pub loop-i-init : goal.loop-i-init
loop-i-init c =
    let a = c.args in
    (named (lines_none a.list) (nothing a.out.now a.at), omega arith)

pub loop-i-preserved : goal.loop-i-preserved
loop-i-preserved c =
    let a = c.args in
    let v = c.loop-i in
    (named (lines_more a.list v.i) (then v.invariant.0 c.note_line-place.ensures.0), omega (arith, v.invariant.1, c.note_line-place.ensures.1))
