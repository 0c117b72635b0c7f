-- `asking::list_in` meets its contract: the invariant is that the array begins with the addresses that were read.
use mathlib.Core.Path.{◌≡◌}
use lib.ListN.{length, take, replicate}
use Rattle.records.specs.Numbers.{cut}
use Rattle.blocks.proofs.asking.list_in.Given as goal

abbrev pub invariant-loop-i : goal.invariant-loop-i
invariant-loop-i l = (length l.list ≡ 255) × (take l.i l.list ≡ cut (replicate l.i 2) 8 l.head)
