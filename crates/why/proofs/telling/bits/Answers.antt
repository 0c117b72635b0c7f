-- `telling::bits` meets its contract: bit after bit, what is left is the word shifted.
use native.Mathlib.Omega.{arith}
use Rattle.text.proofs.Assured.{nothing, then, named}
use Rattle.why.proofs.Told.{bits_none, bits-more, left-first, left-next}
use Rattle.why.proofs.telling.bits.Goals as goal

pub loop-n-init : goal.loop-n-init
loop-n-init c =
    let a = c.args in
    (left-first a.x, named (bits_none a.x) (nothing a.out.now a.at), omega arith)

pub loop-n-preserved : goal.loop-n-preserved
loop-n-preserved c =
    let l = c.loop-n in
    let a = c.args in
    (left-next a.x l.n l.left l.invariant.0, named (bits-more a.x l.n l.left l.invariant.0) (then l.invariant.1 c.bit-place.ensures.0), omega (arith, l.invariant.2, c.bit-place.ensures.1))
