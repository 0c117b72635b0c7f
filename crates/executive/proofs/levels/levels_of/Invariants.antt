use mathlib.Core.Path.{◌≡◌}
use lib.Bits.{bit_or}
use lib.ListN.{drop}
use Rattle.executive.specs.Table.{items, levels_of}
use Rattle.executive.proofs.levels.levels_of.Given as goal

abbrev pub invariant-loop-k : goal.invariant-loop-k
invariant-loop-k l = levels_of (items l.tasks l.line) ≡ bit_or l.word (levels_of (items l.tasks (drop l.k-index l.line)))
