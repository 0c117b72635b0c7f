-- `storing::put_all_awaited` meets its contract. The invariant: the numbers up to i are written, and nothing else.
use mathlib.Core.Path.{◌≡◌}
use lib.ListN.{take}
use Rattle.image.specs.Blocks.{row, written}
use Rattle.image.specs.Image.{awaited_bytes, awaited_at}
use Rattle.image.proofs.storing.put_all_awaited.Given as goal

abbrev pub invariant-loop-i : goal.invariant-loop-i
invariant-loop-i l = l.out ≡ written l.fn.out awaited_at (row awaited_bytes (take l.i l.tasks))
