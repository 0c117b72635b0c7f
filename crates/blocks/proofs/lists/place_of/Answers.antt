-- `lists::place_of` meets its contract: the invariant is that the place counted from here is the place counted from
-- the start.
use native.Mathlib.Omega.{arith}
use Rattle.blocks.proofs.Places.{place_here, place-next, place_end}
use Rattle.blocks.proofs.lists.place_of.Goals as goal

pub returns-then-address-x : goal.returns-then-address-x
returns-then-address-x c =
    let a = c.args in
    let e = place_here a.address a.list.now c.loop-i.i c.loop-i-test.true c.if-address-x.true in
    omega (arith, c.loop-i.invariant)

pub loop-i-preserved : goal.loop-i-preserved
loop-i-preserved c =
    let a = c.args in
    let e = place-next a.address a.list.now c.loop-i.i c.loop-i-test.true c.if-address-x.false in
    omega (arith, c.loop-i.invariant)

pub returns : goal.returns
returns c =
    let a = c.args in
    let e = place_end a.address a.list.now c.loop-i.i c.loop-i-test.false in
    omega (arith, c.loop-i.invariant)
