use Prim.Native.Nat.{◌-◌, ◌≤◌}
use mathlib.Core.Path.{◌≡◌}
use Rattle.executive.specs.Lists.{each}
use Rattle.mender.specs.Rules.{numbers_of}
use Rattle.mender.specs.Listing.{noted_of, note_turn, notes_of}
use Rattle.mender.proofs.CodeNotes.{standing}
use Rattle.mender.proofs.notes.notes_of.Given as goal

abbrev pub invariant-loop-i : goal.invariant-loop-i
invariant-loop-i l =
    (l.l ≡ noted_of (standing l.l)) × (l.l.taken ≤ l.i)
    × (each (note_turn l.count (numbers_of l.broken) l.given l.mended) (16 - l.i) l.i (standing l.l) ≡ notes_of l.count (numbers_of l.broken) l.given l.mended)
