-- `storing::put_run` meets its contract: the four writes make one.
use mathlib.Core.List.{◌++◌}
use native.Mathlib.Omega.{arith}
use Rattle.records.specs.Numbers.{bytes_in}
use Rattle.image.proofs.Spans.{and_then}
use Rattle.image.proofs.storing.put_run.Goals as goal

pub returns : goal.returns
returns c =
    let a = c.args in
    let o = a.out.now in
    let b0 = bytes_in 1 a.task.priority in
    let b1 = bytes_in 2 a.task.argument in
    let b2 = bytes_in 8 a.task.start.0 in
    let b3 = bytes_in 1 a.task.end_waiter.0 in
    let e1 = and_then o a.at b0 b1 c.put_byte.ensures c.put_pair.ensures (omega (arith, c.requires)) in
    let e2 = and_then o a.at (b0 ++ b1) b2 e1 c.put_long.ensures (omega (arith, c.requires)) in
    and_then o a.at ((b0 ++ b1) ++ b2) b3 e2 c.put_byte-2.ensures (omega (arith, c.requires))
