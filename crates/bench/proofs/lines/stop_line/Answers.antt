-- `lines::stop_line` meets its contract: its pieces are put one after the other, and they fit.
use native.Mathlib.Omega.{arith}
use Rattle.text.proofs.Assured.{put_then, put_last}
use Rattle.bench.proofs.Short.{stop-short}
use Rattle.bench.proofs.lines.stop_line.Goals as goal

pub returns : goal.returns
returns c =
    let l = stop-short c.from.result (omega arith) in
    rw (← c.from.ensures) (put_then (omega (arith, l, c.requires)) c.text-at.ensures
    (λ h. put_then h c.decimal-at.ensures
    (λ h. put_last c.put.ensures h)))
