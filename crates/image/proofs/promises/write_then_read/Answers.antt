-- `promises::write_then_read` meets its contract: the image of a table loads to it.
use mathlib.Core.Path.{◌∙◌}
use Rattle.image.proofs.promises.write_then_read.Goals as goal

pub returns : goal.returns
returns c = c.load.ensures ∙ c.image_of-image.ensures.holds.loads
