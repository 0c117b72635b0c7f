-- `mending::mend_whole` meets its contract: refused, and all is kept; else the list and the image of the mended table.
use mathlib.Core.Path.{ap, ◌∙◌}
use native.Mathlib.Omega.{arith}
use Rattle.mender.specs.Mending.{mend_of}
use Rattle.image.specs.declared.mending.Notes.{Notes}
use Rattle.image.specs.Blocks.{written}
use Rattle.image.specs.Mending.{notes_bytes}
use Rattle.image.proofs.Owned.{mended-owned}
use Rattle.image.proofs.Listed.{mend_refused, mend_done}
use Rattle.image.proofs.mending.mend_whole.Goals as goal

pub returns-then-number-ne0 : goal.returns-then-number-ne0
returns-then-number-ne0 c =
    let a = c.args in
    mend_refused a.image.now a.list.now c.told-image c.requires c.mend-mended.result
    (c.mend-mended.ensures.answer ∙ ap mend_of c.load_whole-table.ensures) c.if-number-ne0.true

pub returns : goal.returns
returns c =
    let a = c.args in
    let x = c.mend-mended.result in
    mend_done a.image.now a.list.now c.told-image c.requires x (c.mend-mended.ensures.answer ∙ ap mend_of c.load_whole-table.ensures)
    (omega (arith, c.if-number-ne0.false)) (mended-owned x _ c.mend-mended.type_inv) c.put_table.ensures
    (c.put_list.ensures ∙ ap (λ (y : Notes). written a.list.now 0 (notes_bytes y)) c.notes_of-notes.ensures)
