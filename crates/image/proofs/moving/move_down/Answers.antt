-- `moving::move_down` meets its contract. The invariant: the bytes from i on are moved, and nothing else.
use native.Mathlib.Omega.{arith}
use Rattle.image.proofs.Shifts.{one_copied, down-start, down_turn}
use Rattle.image.proofs.moving.move_down.Goals as goal

pub loop-i-init : goal.loop-i-init
loop-i-init c = down-start _ c.args.to c.args.from c.args.n (omega (arith, c.requires.0, c.requires.1))

pub loop-i-preserved : goal.loop-i-preserved
loop-i-preserved c =
    let v = c.loop-i in
    let a = c.args in
    down_turn _ a.to a.from a.n v.b _ v.i _ 1 c.requires.0 c.requires.1 (omega arith) (omega arith) v.invariant
    (one_copied v.b _ _ (omega (arith, c.requires.1)) (omega (arith, c.requires.0, c.requires.1)))
