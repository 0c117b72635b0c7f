-- `lines::header_line` meets its contract: its pieces are put one after the other, and they fit.
use native.Mathlib.Omega.{arith}
use Rattle.text.proofs.Assured.{put_then, put_last}
use Rattle.bench.proofs.Short.{header_short}
use Rattle.bench.proofs.lines.header_line.Goals as goal

pub returns : goal.returns
returns c =
    let l = header_short c.from.result c.from-2.result c.from-3.result (omega arith) (omega arith) (omega (arith, c.well_formed)) in
    rw (← c.from.ensures, ← c.from-2.ensures, ← c.from-3.ensures) (
    put_then (omega (arith, l, c.requires)) c.text-at.ensures
    (λ h. put_then h c.decimal-at.ensures
    (λ h. put_then h c.text-at-2.ensures
    (λ h. put_then h c.decimal-at-2.ensures
    (λ h. put_then h c.text-at-3.ensures
    (λ h. put_then h c.decimal-at-3.ensures
    (λ h. put_last c.put.ensures h)))))))
