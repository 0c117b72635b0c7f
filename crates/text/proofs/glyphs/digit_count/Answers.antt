-- `glyphs::digit_count` meets its contract: the whole part of the logarithm is one less.
use Rattle.std.proofs.Common.{arith, ap, length}
use Rattle.text.proofs.Digits.{decimal_one, decimal_short, decimal_long}
use Rattle.text.proofs.glyphs.digit_count.Goals as goal

pub returns-in-Some : goal.returns-in-Some
returns-in-Some c =
    let k = c.in-Some.k in
    omega (arith, decimal_long k c.args.n c.in-Some.ensures.power_le, decimal_short k c.args.n (omega (arith, c.in-Some.ensures.next_power_gt)))

pub returns-in-None : goal.returns-in-None
returns-in-None c = omega (arith, ap length (decimal_one c.args.n (omega (arith, c.in-None.ensures.none))))
