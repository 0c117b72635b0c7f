-- `images::is_scan` meets its contract: another length is no image, and else the bytes are compared.
use mathlib.Core.Path.{ap, ◌∙◌}
use lib.Dec.{eqb}
use lib.Pointwise.{pointwise}
use Rattle.scan_board.proofs.Chains.{pointwise-same}
use Rattle.scan_board.proofs.Trips.{not-long, compared}
use Rattle.scan_board.proofs.images.is_scan.Goals as goal

pub returns-then-bytes-ne-IMAGE : goal.returns-then-bytes-ne-IMAGE
returns-then-bytes-ne-IMAGE c = not-long c.args.bytes.now c.if-bytes-ne-IMAGE.true

pub returns : goal.returns
returns c =
    compared c.args.bytes.now c.load.result c.if-bytes-ne-IMAGE.false c.load.ensures c.put_scan.ensures.1 (c.eq.ensures ∙ ap (λ s. pointwise eqb s c.args.bytes.now) c.as_slice.ensures ∙ pointwise-same _ _)
