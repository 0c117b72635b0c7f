-- `moving::few_up` meets its contract. The invariant of both loops: the first i bytes are moved, and nothing else.
use mathlib.Core.Path.{refl, ◌∙◌}
use native.Mathlib.Omega.{arith}
use Rattle.image.proofs.Shifts.{one_copied, up_start, up_turn}
use Rattle.image.proofs.moving.few_up.Goals as goal

pub loop-i-init : goal.loop-i-init
loop-i-init c = let a = c.args in (omega arith, refl, up_start a.b.now a.to a.from a.n)

pub loop-i-preserved : goal.loop-i-preserved
loop-i-preserved c =
    let r = c.copy_four in
    let v = c.loop-i in (
      omega (arith, c.loop-i-test.true, v.invariant.0),
      r.auto.b ∙ v.invariant.1,
      up_turn c.args.b.now c.args.to c.args.from c.args.n v.b r.new.b v.i 4 c.requires.0 c.requires.1 (omega (arith, c.loop-i-test.true, v.invariant.0)) v.invariant.2 r.ensures,
    )

pub loop-j-preserved : goal.loop-j-preserved
loop-j-preserved c =
    let v = c.loop-j in
    let a = c.args in
    up_turn a.b.now a.to a.from a.n v.b _ v.j 1 c.requires.0 c.requires.1 (omega arith) v.invariant
    (one_copied v.b _ _ (omega (arith, c.requires.0, c.requires.1)) (omega (arith, c.requires.1)))
