-- The due alarms ring, of those that are running. The loop's invariant: the bytes are the image of a table in which those
-- before i rang and the others are as they were, and what is left to ring from i on gives the whole. The measure is what is
-- left of the 32.
use Rattle.image.proofs.RestLaid.{rung-first, rung-next, rung-end, rung-none}
use Rattle.image.proofs.changes.ring_from.Goals as goal

pub loop-i-init : goal.loop-i-init
loop-i-init c =
    let a = c.args in
    λ t l r e. rung-first t a.time a.first r _ c.next_in-i.ensures l e

pub returns-then-first-gt31 : goal.returns-then-first-gt31
returns-then-first-gt31 c = λ t l r e. rung-none t c.args.first c.if-first-gt31.true l

pub loop-i-preserved : goal.loop-i-preserved
loop-i-preserved c =
    let a = c.args in
    let v = c.loop-i in
    let u = c.loop-i-test.true in
    λ t l r e. rung-next t a.time a.first r v.i _ u c.next_in-i-in-loop-i.ensures (v.invariant t l r e) c.ring.ensures

pub returns : goal.returns
returns c =
    let v = c.loop-i in
    λ t l r e. rung-end t _ _ v.i c.loop-i-test.false (v.invariant t l r e)
