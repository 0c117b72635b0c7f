-- `telling::worded` meets its contract: the words, and the number behind them.
use native.Mathlib.Omega.{arith}
use Rattle.text.proofs.Assured.{then, put_last}
use Rattle.why.proofs.telling.worded.Goals as goal

pub number-requires : goal.number-requires
number-requires c =
    let p = put_last c.text-a.ensures (omega (arith, c.requires.0, c.requires.1)) in
    omega (arith, p.place, p.size, c.requires.0, c.requires.1)

pub returns : goal.returns
returns c =
    let p = put_last c.text-a.ensures (omega (arith, c.requires.0, c.requires.1)) in
    (then p c.number.ensures.0, omega (arith, p.place, c.number.ensures.1, c.requires.1))
