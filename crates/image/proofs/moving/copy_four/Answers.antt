-- `moving::copy_four` meets its contract: four reads, and then four stores.
use mathlib.Core.Path.{ap, ◌∙◌}
use Rattle.image.specs.Blocks.{written}
use Rattle.image.proofs.Digits.{word_read}
use Rattle.image.proofs.Spans.{stored-four}
use Rattle.image.proofs.Shifts.{part-taken}
use Rattle.image.proofs.moving.copy_four.Goals as goal

pub returns : goal.returns
returns c =
    let a = c.args in
    let s = a.b.now in
    stored-four s a.to _ _ _ _ c.requires.1 ∙ ap (written s a.to) (word_read s a.from ∙ part-taken s 4 a.from c.requires.0)
