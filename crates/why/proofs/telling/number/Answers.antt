-- `telling::number` meets its contract: a number of 64 bits has at most twenty digits.
use native.Mathlib.Omega.{arith}
use Rattle.text.proofs.Assured.{promises, put_last}
use Rattle.why.proofs.telling.number.Goals as goal

pub returns : goal.returns
returns c =
    let l = promises.digits 19 c.args.n (omega (arith, c.ranges)) in
    let p = put_last c.decimal.ensures (omega (arith, l, c.requires)) in
    (p, omega (arith, l, p.place))
