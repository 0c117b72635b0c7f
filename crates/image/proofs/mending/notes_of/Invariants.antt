-- `mending::notes_of` meets its contract. The invariant: the notes so far, and those of the places from i on, are the list.
use Prim.Native.Nat.{◌-◌, ◌≤◌}
use mathlib.Core.Path.{◌≡◌}
use mathlib.Core.List.{◌++◌}
use Rattle.image.specs.Mending.{list_rule, notes_from, placed}
use Rattle.image.proofs.Noted.{standing}
use Rattle.image.proofs.mending.notes_of.Given as goal

abbrev pub invariant-loop-i : goal.invariant-loop-i
invariant-loop-i l =
    (l.l ≡ placed (standing l.l)) × (l.l.noted ≤ l.i)
    × (standing l.l ++ notes_from (list_rule l.bytes l.given) (16 - l.i) l.i ≡ notes_from (list_rule l.bytes l.given) 16 0)
