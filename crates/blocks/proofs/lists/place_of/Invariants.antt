-- `lists::place_of` meets its contract: the invariant is that the place counted from here is the place counted from
-- the start.
use Prim.Native.Nat.{◌+◌}
use mathlib.Core.Path.{◌≡◌}
use lib.ListN.{drop}
use Rattle.blocks.specs.Lists.{place_of}
use Rattle.blocks.proofs.lists.place_of.Given as goal

abbrev pub invariant-loop-i : goal.invariant-loop-i
invariant-loop-i l = l.i + place_of l.address (drop l.i l.list) ≡ place_of l.address l.list
