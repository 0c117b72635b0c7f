-- `laying::put_row` meets its contract. The invariant: the blocks up to i are written, and nothing else, and each has its width.
use mathlib.Core.Path.{◌≡◌}
use lib.ListN.{take}
use Rattle.image.specs.Blocks.{Each, row, written}
use Rattle.image.proofs.Spans.{Wide}
use Rattle.image.proofs.laying.put_row.Given as goal

abbrev pub invariant-loop-i : goal.invariant-loop-i
invariant-loop-i g l =
    let b = g.T.Block in
    (l.out ≡ written l.fn.out l.at (row b.bytes (take l.i l.blocks))) × Each (Wide b.bytes b.WIDTH) (take l.i l.blocks)
