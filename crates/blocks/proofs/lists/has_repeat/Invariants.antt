-- `lists::has_repeat` meets its contract: the invariant is that the rest of the list has a repeat exactly where the
-- whole has.
use mathlib.Core.Path.{◌≡◌}
use lib.ListN.{drop}
use Rattle.blocks.specs.Lists.{has_repeat}
use Rattle.blocks.proofs.lists.has_repeat.Given as goal

abbrev pub invariant-loop-i : goal.invariant-loop-i
invariant-loop-i l = has_repeat (drop l.i l.list) ≡ has_repeat l.list
