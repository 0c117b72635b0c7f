-- `lines::step_line` meets its contract: its pieces are put one after the other, and they fit.
use native.Mathlib.Omega.{arith}
use Rattle.text.proofs.Assured.{put_then, put_last}
use Rattle.bench.proofs.Short.{line-short}
use Rattle.bench.specs.Lines.{line_of}
use Rattle.bench.proofs.lines.step_line.Goals as goal

pub returns : goal.returns
unfolding line_of
returns c =
    let a = c.args in
    let l = line-short a.number a.kind a.answer (omega arith) (omega (arith, c.well_formed)) (omega (arith, c.well_formed)) in
    rw (← c.from.ensures, ← c.from-2.ensures, ← c.from-3.ensures) (
    put_then (omega (arith, rw (← c.from.ensures, ← c.from-2.ensures, ← c.from-3.ensures) at l, c.requires)) c.decimal-at.ensures
    (λ h. put_then h c.put-at.ensures
    (λ h. put_then h c.hex-at.ensures
    (λ h. put_then h c.put-at-2.ensures
    (λ h. put_then h c.decimal-at-2.ensures
    (λ h. put_then h c.put-at-3.ensures
    (λ h. put_then h c.bits-at.ensures
    (λ h. put_then h c.put-at-4.ensures
    (λ h. put_then h c.decimal-at-3.ensures
    (λ h. put_last c.put.ensures h))))))))))

pub shape_of-out : goal.shape_of-out
shape_of-out c = (returns c).size
