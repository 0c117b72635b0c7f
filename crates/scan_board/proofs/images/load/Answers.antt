-- `images::load` meets its contract: the board's table of the front, and the numbers behind it.
use Prim.Native.Nat.{◌-◌}
use mathlib.Core.Path.{sym}
use native.Mathlib.Omega.{arith}
use lib.ListN.{length, take, drop, length-drop}
use lib.Seq.{length-take-le, take_all}
use Rattle.image.specs.Image.{image_length}
use Rattle.scan_board.proofs.Pieces.{loaded}
use Rattle.scan_board.proofs.images.load.Goals as goal

pub slice_bounds-load-end : goal.slice_bounds-load-end
slice_bounds-load-end c =
    sym (length-take-le image_length c.args.bytes.now (omega (arith, c.requires)))

pub returns : goal.returns
returns c =
    let l = c.load-t in
    let n = c.entries_in in
    let s = c.args.bytes.now in
    let d = length-drop image_length s in
    loaded s (take (length s - image_length) (drop image_length s)) l.result n.result c.number_in.result l.ensures
    (take_all (length s - image_length) (drop image_length s) (omega (arith, d))) n.ensures c.number_in.ensures
