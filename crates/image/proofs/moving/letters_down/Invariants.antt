-- `moving::letters_down` meets its contract. The invariant: the messages from place i on are moved, and nothing else.
use Prim.Native.Nat.{◌≤◌}
use Rattle.image.proofs.Shifts.{Lowered}
use Rattle.image.proofs.moving.letters_down.Given as goal

abbrev pub invariant-loop-i : goal.invariant-loop-i
invariant-loop-i l = (l.at ≤ l.i) × Lowered l.fn.b 1058 l.at l.n l.b l.i
