-- `telling::bits` meets its contract: bit after bit, what is left is the word shifted.
use Prim.Native.Nat.{◌+◌, ◌*◌, ◌≤◌}
use mathlib.Core.Path.{◌≡◌}
use Rattle.text.specs.Glyphs.{Adds}
use Prim.Native.Nat.{◌/◌, ◌^◌}
use Rattle.why.specs.Texts.{bits_of}
use Rattle.why.proofs.telling.bits.Given as goal

abbrev pub invariant-loop-n : goal.invariant-loop-n
invariant-loop-n l = (l.left ≡ l.x / 2 ^ l.n) × Adds l.initial.out l.at l.out l.place (bits_of l.x l.n) × (l.place ≤ l.at + 52 * l.n)
