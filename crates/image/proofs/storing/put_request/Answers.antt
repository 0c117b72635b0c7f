-- `storing::put_request` meets its contract: the three writes make one.
use mathlib.Core.List.{[], ◌∷◌, ◌++◌}
use native.Mathlib.Omega.{arith}
use Rattle.records.specs.Numbers.{bytes_in}
use Rattle.image.proofs.Spans.{and_then}
use Rattle.image.proofs.storing.put_request.Goals as goal

pub returns : goal.returns
returns c =
    let a = c.args in
    let o = a.out.now in
    let b0 = a.request.target.0 ∷ a.request.priority ∷ [] in
    let b1 = bytes_in 2 a.request.argument in
    let b2 = a.request.start_waiter.0 ∷ a.request.end_waiter.0 ∷ [] in
    let e1 = and_then o a.at b0 b1 c.put_both.ensures c.put_pair.ensures (omega (arith, c.requires)) in
    and_then o a.at (b0 ++ b1) b2 e1 c.put_both-2.ensures (omega (arith, c.requires))
