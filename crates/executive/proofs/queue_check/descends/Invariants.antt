use mathlib.Core.Path.{◌≡◌}
use lib.Bits.{bit_or}
use lib.ListN.{drop}
use Rattle.executive.specs.Table.{items, levels_of}
use Rattle.executive.specs.Check.{falls}
use Rattle.executive.proofs.queue_check.descends.Given as goal

abbrev pub invariant-loop-k : goal.invariant-loop-k
invariant-loop-k l =
    (falls l.tasks l.count l.p (drop l.k-index l.line) ≡ falls l.tasks l.count 15 l.line)
    × (levels_of (items l.tasks l.line) ≡ bit_or l.word (levels_of (items l.tasks (drop l.k-index l.line))))
