-- `moving::letter_down` meets its contract: eleven reads, and then eleven stores.
use Rattle.image.proofs.Shifts.{block-down}
use Rattle.image.proofs.moving.letter_down.Goals as goal

pub returns : goal.returns
returns c = block-down c.args.b.now c.args.at c.requires
