-- `doing::enter_all` meets its contract. The invariant: the bytes are the image of a table on the way, whose line descends, and of
-- which those who are still to enter make the whole.
use Prim.Native.Nat.{◌≤◌}
use native.Mathlib.Omega.{arith}
use lib.ListN.{length}
use Rattle.image.proofs.DoneLaid.{stage_turn, stage_end}
use Rattle.image.proofs.doing.enter_all.Goals as goal

pub loop-i-preserved : goal.loop-i-preserved
loop-i-preserved c =
    let v = c.loop-i in
    let n : c.args.list.count ≤ length c.args.list.places = omega arith in (
      omega (arith, v.invariant.0, c.enter-walked.ensures.upper_bound),
      λ t l f h d. stage_turn _ _ _ _ n _ _ v.walked _ v.i c.loop-i-test.true (v.invariant.1 t l f h d) c.enter-walked.ensures.laid,
    )

pub returns : goal.returns
returns c =
    let v = c.loop-i in
    let n : c.args.list.count ≤ length c.args.list.places = omega arith in
    λ t l f h d. stage_end _ _ _ _ n _ _ v.walked v.i c.loop-i-test.false (v.invariant.1 t l f h d)
