-- `quermanic_scan_check` meets its contract: bytes that are no image get 1, an image gets its table's number.
use mathlib.Core.Path.{sym, ◌∙◌}
use Rattle.scan_board.proofs.Trips.{image-parts}
use Rattle.scan_board.proofs.Answered.{check_none, check_image}
use Rattle.scan_board.proofs.quermanic_scan_check.Goals as goal

pub returns-then-not-is_scan : goal.returns-then-not-is_scan
returns-then-not-is_scan c =
    let i = c.is_scan in
    check_none c.args.image.now (sym i.ensures ∙ c.if-not-is_scan.true)

pub load-requires : goal.load-requires
load-requires c =
    let i = c.is_scan in
    (image-parts c.args.image.now (sym i.ensures ∙ c.if-not-is_scan.false)).0

pub returns : goal.returns
returns c =
    let l = c.load in
    let i = c.is_scan in
    check_image c.args.image.now l.result c.check.result l.ensures
    (sym i.ensures ∙ c.if-not-is_scan.false) c.check.ensures
