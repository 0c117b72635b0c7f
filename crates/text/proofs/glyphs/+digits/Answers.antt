use Rattle.std.proofs.Common.{[], ◌∷◌, ◌+◌, length, ap, arith}
use Rattle.text.proofs.Adding.{then, puts-adds}
use Rattle.text.proofs.Digits.{decimal_one, decimal_more, decimal_length}
use Rattle.text.proofs.glyphs.+digits.Goals as goal

pub returns-then-n-lt10 : goal.returns-then-n-lt10
returns-then-n-lt10 t c =
    let one = decimal_one c.args.n c.if-n-lt10.true in
    rw one (puts-adds _ _ ((48 + c.args.n) ∷ []) (omega (arith, ap length one, c.requires)) c.put.ensures)

pub digits-place-requires : goal.digits-place-requires
digits-place-requires t c = (omega arith, omega (arith, decimal_length c.args.n c.if-n-lt10.false))

pub returns : goal.returns
returns t c =
    let e = c.digits-place.ensures in
    let long = decimal_length c.args.n c.if-n-lt10.false in
    rw (decimal_more c.args.n c.if-n-lt10.false)
    (then e (puts-adds _ _ _ (omega (arith, long, e.place, e.size, c.requires)) c.put-2.ensures))
