use native.Mathlib.Omega.{arith}
use Rattle.executive.proofs.Lists.Loops.{tally-next}
use Rattle.executive.proofs.queue_check.tally.Goals as goal

pub loop-x-preserved : goal.loop-x-preserved
loop-x-preserved c =
    let v = c.loop-x in
    rw c.entry_place.ensures (tally-next c.args.line.now v.x-index v.counts (omega arith) v.invariant)
