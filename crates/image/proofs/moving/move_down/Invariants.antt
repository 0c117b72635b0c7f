-- `moving::move_down` meets its contract. The invariant: the bytes from i on are moved, and nothing else.
use Prim.Native.Nat.{◌+◌}
use mathlib.Core.Path.{◌≡◌}
use lib.ListN.{take, drop}
use Rattle.image.specs.Blocks.{written}
use Rattle.image.proofs.moving.move_down.Given as goal

abbrev pub invariant-loop-i : goal.invariant-loop-i
invariant-loop-i l = l.b ≡ written l.fn.b (l.to + l.i) (drop l.i (take l.n (drop l.from l.fn.b)))
