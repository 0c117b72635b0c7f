-- `telling::mode_words` meets its contract.
use native.Mathlib.Omega.{arith}
use Rattle.text.proofs.Assured.{put_last}
use Rattle.why.proofs.telling.mode_words.Goals as goal

pub returns-in-Any : goal.returns-in-Any
returns-in-Any c =
    let p = put_last c.text.ensures (omega (arith, c.requires)) in
    rw c.in-Any.is (p, omega (arith, p.place))

pub returns-in-All : goal.returns-in-All
returns-in-All c =
    let p = put_last c.text-in-All.ensures (omega (arith, c.requires)) in
    rw c.in-All.is (p, omega (arith, p.place))
