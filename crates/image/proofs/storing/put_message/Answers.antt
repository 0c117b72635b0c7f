-- `storing::put_message` meets its contract: the three writes make one.
use mathlib.Core.List.{[], ◌∷◌, ◌++◌}
use native.Mathlib.Omega.{arith}
use Rattle.records.specs.Numbers.{bytes_in}
use Rattle.image.proofs.Spans.{and_then}
use Rattle.image.proofs.storing.put_message.Goals as goal

pub returns : goal.returns
returns c =
    let a = c.args in
    let o = a.out.now in
    let b0 = a.message.to.0 ∷ a.message.sender.0 ∷ [] in
    let b1 = bytes_in 1 a.message.priority in
    let b2 = bytes_in 8 a.message.text.0 in
    let e1 = and_then o a.at b0 b1 c.put_both.ensures c.put_byte.ensures (omega (arith, c.requires)) in
    and_then o a.at (b0 ++ b1) b2 e1 c.put_long.ensures (omega (arith, c.requires))
