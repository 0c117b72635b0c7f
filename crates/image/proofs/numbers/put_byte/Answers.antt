-- `numbers::put_byte` meets its contract: one store.
use mathlib.Core.List.{[], ◌∷◌}
use Rattle.image.proofs.Spans.{stored}
use Rattle.image.proofs.numbers.put_byte.Goals as goal

pub returns : goal.returns
returns c = stored c.args.out.now c.args.at (c.args.x ∷ []) c.requires
