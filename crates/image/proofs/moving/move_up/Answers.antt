-- `moving::move_up` meets its contract. The invariant: the first i bytes are moved, and nothing else.
use Prim.Native.Nat.{ℕ, ◌+◌, ◌-◌}
use mathlib.Core.Path.{◌≡◌, refl, ap, ◌∙◌}
use native.Mathlib.Omega.{arith}
use lib.ListN.{take, drop}
use Rattle.image.specs.Blocks.{written}
use Rattle.image.proofs.Shifts.{up_start, up_turn}
use Rattle.image.proofs.moving.move_up.Goals as goal

pub loop-i-init : goal.loop-i-init
loop-i-init c = let a = c.args in (omega arith, refl, up_start a.b.now a.to a.from a.n)

pub loop-i-preserved : goal.loop-i-preserved
loop-i-preserved c =
    let v = c.loop-i in (
      omega (arith, c.loop-i-test.true, v.invariant.0),
      c.sixteen_up.auto.b ∙ v.invariant.1,
      up_turn c.args.b.now c.args.to c.args.from c.args.n v.b c.sixteen_up.new.b v.i 16 c.requires.0 c.requires.1 (omega (arith, c.loop-i-test.true, v.invariant.0)) v.invariant.2 c.sixteen_up.ensures,
    )

pub returns : goal.returns
returns c =
    let v = c.loop-i in
    let e : v.i + (c.args.n - v.i) ≡ c.args.n = omega (arith, v.invariant.0) in
    up_turn c.args.b.now c.args.to c.args.from c.args.n v.b _ v.i (c.args.n - v.i) c.requires.0 c.requires.1 (omega (arith, v.invariant.0)) v.invariant.2 c.few_up.ensures
    ∙ ap (λ (m : ℕ). written c.args.b.now c.args.to (take m (drop c.args.from c.args.b.now))) e
