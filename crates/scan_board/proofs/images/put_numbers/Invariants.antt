-- `images::put_numbers` meets its contract. The invariant: the numbers up to i are written, and nothing else.
use Rattle.std.proofs.Common.{◌≡◌, take}
use Rattle.image.specs.Blocks.{row, written}
use Rattle.scan_board.specs.Image.{arrival_bytes}
use Rattle.scan_board.proofs.images.put_numbers.Given as goal

abbrev pub invariant-loop-i : goal.invariant-loop-i
invariant-loop-i l = l.out ≡ written l.initial.out 0 (row arrival_bytes (take l.i l.fn.entries))
