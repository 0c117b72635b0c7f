-- `sound_post::letters_right` meets its contract. The invariant: what is left, under the priority last met, decides.
use Prim.Native.Nat.{◌≤◌}
use mathlib.Core.Path.{◌≡◌}
use Rattle.image.proofs.PostRead.{letters_from}
use Rattle.image.proofs.sound_post.letters_right.Given as goal

abbrev pub invariant-loop-i : goal.invariant-loop-i
invariant-loop-i l = (l.p ≤ 15) × (letters_from l.b l.count l.sent l.p l.i ≡ letters_from l.b l.count l.sent 15 0)
