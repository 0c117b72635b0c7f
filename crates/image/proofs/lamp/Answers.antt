-- `lamp` meets its contract: bytes of another length show nothing, any others what their word says.
use mathlib.Core.Path.{◌∙◌}
use Rattle.image.proofs.Shown.{lamp-short, lamp-read, byte-is}
use Rattle.image.proofs.lamp.Goals as goal

pub returns-then-image-ne-IMAGE : goal.returns-then-image-ne-IMAGE
returns-then-image-ne-IMAGE c = lamp-short c.args.image.now c.if-image-ne-IMAGE.true

pub returns : goal.returns
returns c =
    let l = c.lamp.result in
    c.unwrap_or.ensures ∙ byte-is l ∙ lamp-read c.args.image.now c.pair_in-word.result l c.if-image-ne-IMAGE.false c.pair_in-word.ensures c.lamp.ensures
