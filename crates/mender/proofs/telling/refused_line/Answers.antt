use native.Mathlib.Omega.{arith}
use Rattle.text.proofs.Assured.{promises, then, put_last}
use Rattle.mender.specs.Telling.{refused_line}
use Rattle.mender.proofs.telling.refused_line.Goals as goal

pub returns : goal.returns
unfolding refused_line
returns c =
    let l = promises.digits 2 c.args.number (omega (arith, c.ranges)) in
    let p = put_last c.text-a.ensures (omega (arith, c.requires)) in
    let d = put_last c.decimal-b.ensures (omega (arith, l, p.place, p.size, c.requires)) in
    let e = put_last c.put.ensures (omega (arith, l, p.place, p.size, d.place, d.size, c.requires)) in
    (then p (then d e), omega (arith, l, p.place, d.place, e.place))
