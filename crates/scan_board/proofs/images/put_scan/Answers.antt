-- `images::put_scan` meets its contract: a table that code holds fits, and its two parts fill the buffer.
use mathlib.Core.Path.{sym, ap, ◌∙◌}
use native.Mathlib.Omega.{arith}
use lib.Seq.{length-take-le}
use Rattle.scan.specs.Step.{bare}
use Rattle.image.specs.Image.{image_length, image_of, FitsTable}
use Rattle.image.proofs.Assured.{promises, table-owned}
use Rattle.scan_board.proofs.Owned.{numbers-owned}
use Rattle.scan_board.proofs.Pieces.{stored_in, wrote_scan}
use Rattle.scan_board.proofs.images.put_scan.Goals as goal

pub slice_bounds-store-end-2 : goal.slice_bounds-store-end-2
slice_bounds-store-end-2 c =
    sym (length-take-le image_length c.args.out.now (omega (arith, c.requires)))

pub returns : goal.returns
returns c =
    let b = c.bare_of in
    let e = c.args.table in
    let fb : FitsTable (bare e) = rw b.ensures at (table-owned b.result _ b.type_inv) in
    let n = numbers-owned e _ c.well_formed.1.0 in
    let l = promises.sized (image_of (bare e)) (promises.stored (bare e) fb) in
    let p = c.put_numbers in (
      record { table = fb; arrivals = n.0; last = n.1 },
      wrote_scan c.args.out.now e l c.requires (stored_in b.result _ _ _ (length-take-le image_length c.args.out.now (omega (arith, c.requires))) c.store.ensures ∙ ap image_of b.ensures) p.ensures.1,
    )
