use Prim.Native.Nat.{◌+◌, ◌*◌, ◌≤◌}
use Rattle.text.specs.Glyphs.{Adds}
use Rattle.mender.specs.Telling.{note_lines}
use Rattle.mender.proofs.telling.note_lines.Given as goal

abbrev pub invariant-loop-i : goal.invariant-loop-i
invariant-loop-i l = Adds l.initial.out l.at l.out l.place (note_lines l.list l.i) × (l.place ≤ l.at + 92 * l.i)
