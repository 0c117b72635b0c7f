-- `zeros::are_zero` meets its contract. The invariant of each of the three loops: what is put together is zero where the bytes passed are.
use Prim.Native.Nat.{ℕ, ◌-◌}
use mathlib.Core.Path.{◌≡◌, refl, sym, ap, ◌∙◌}
use native.Mathlib.Omega.{arith}
use borrow.Author.Tests.{eq-eqb}
use lib.Dec.{eqb}
use Rattle.image.specs.Sound.{noughts}
use Rattle.image.proofs.Noughts.{noughts-none, byte-nought, or-past}
use Rattle.image.proofs.zeros.are_zero.Goals as goal

pub loop-at-init : goal.loop-at-init
loop-at-init c =
    let a = c.args in
    (omega arith, c.requires.0, eq-eqb 0 0 refl ∙ sym (noughts-none a.b.now (a.from - a.from) a.from (omega arith)))

pub loop-at-preserved : goal.loop-at-preserved
loop-at-preserved c =
    let a = c.args in
    let v = c.loop-at in
    let t = c.loop-at-test.true in
    (omega (arith, v.invariant.0), omega (arith, v.invariant.1, t), or-past a.b.now 32 a.from v.at v.all c.thirty_two-all.result v.invariant.0 v.invariant.2 c.thirty_two-all.ensures)

pub loop-at-2-init : goal.loop-at-2-init
loop-at-2-init c = c.loop-at.invariant

pub loop-at-2-preserved : goal.loop-at-2-preserved
loop-at-2-preserved c =
    let a = c.args in
    let v = c.loop-at-2 in
    let t = c.loop-at-2-test.true in
    (omega (arith, v.invariant.0), omega (arith, v.invariant.1, t), or-past a.b.now 4 a.from v.at v.all c.quad-all.result v.invariant.0 v.invariant.2 c.quad-all.ensures.result_value)

pub loop-i-init : goal.loop-i-init
loop-i-init c = (c.loop-at-2.invariant.0, c.loop-at-2.invariant.2)

pub loop-i-preserved : goal.loop-i-preserved
loop-i-preserved c =
    let a = c.args in
    let v = c.loop-i in
    (omega (arith, v.invariant.0), or-past a.b.now 1 a.from v.i v.all c.wide-all.result v.invariant.0 v.invariant.1 (ap (λ (x : ℕ). eqb x 0) c.wide-all.ensures ∙ sym (byte-nought a.b.now v.i)))

pub returns : goal.returns
returns c =
    let a = c.args in
    let v = c.loop-i in
    let e : v.i ≡ a.to = omega (arith, c.loop-at-2.invariant.1) in
    v.invariant.1 ∙ ap (λ (n : ℕ). noughts a.b.now (n - a.from) a.from) e
