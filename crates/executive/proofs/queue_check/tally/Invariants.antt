use lib.ListN.{take}
use Rattle.executive.proofs.Lists.Loops.{Tallying}
use Rattle.executive.proofs.queue_check.tally.Given as goal

abbrev pub invariant-loop-x : goal.invariant-loop-x
invariant-loop-x l = Tallying l.counts (take l.x-index l.line)
