-- The scan of what is left, with the best so far, gives the answer.
use Rattle.std.proofs.Common.{◌≡◌, drop}
use Rattle.scan.specs.Choosing.{chosen, scanned}
use Rattle.scan.proofs.choosing.choose.Given as goal

abbrev pub invariant-loop-i : goal.invariant-loop-i
invariant-loop-i l = scanned (drop l.i l.entries) l.i l.best ≡ chosen l.entries
