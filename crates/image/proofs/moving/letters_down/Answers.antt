-- `moving::letters_down` meets its contract. The invariant: the messages from place i on are moved, and nothing else.
use native.Mathlib.Omega.{arith}
use Rattle.image.proofs.Shifts.{blocks_start, blocks-turn}
use Rattle.image.proofs.moving.letters_down.Goals as goal

pub loop-i-init : goal.loop-i-init
loop-i-init c = (c.requires.0, blocks_start c.args.b.now 1058 c.args.at c.args.n (omega (arith, c.told-b, c.requires.1)) c.requires.0)

pub loop-i-preserved : goal.loop-i-preserved
loop-i-preserved c =
    let v = c.loop-i in
    let a = c.args in
    let t = c.loop-i-test.true in (
      omega (arith, t),
      blocks-turn a.b.now 1058 a.at a.n (omega (arith, c.told-b, c.requires.1)) v.b _ v.i t (omega arith) v.invariant.1 c.letter_down.ensures,
    )
