-- `telling::said` meets its contract: words behind the number.
use native.Mathlib.Omega.{arith}
use Rattle.text.proofs.Assured.{then, put_last}
use Rattle.why.proofs.telling.said.Goals as goal

pub returns : goal.returns
returns c =
    let w = c.worded-a.ensures in
    let p = put_last c.text.ensures (omega (arith, w.1, w.0.size, c.requires.0, c.requires.2)) in
    (then w.0 p, omega (arith, w.1, p.place, c.requires.2))
