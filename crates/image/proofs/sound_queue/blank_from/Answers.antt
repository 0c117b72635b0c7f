-- `sound_queue::blank_from` meets its contract: nobody stands where the bytes are zero.
use mathlib.Core.Path.{sym, ◌∙◌}
use Rattle.image.proofs.Noughts.{line-nought}
use Rattle.image.proofs.sound_queue.blank_from.Goals as goal

pub returns : goal.returns
returns c = c.are_zero.ensures ∙ sym (line-nought c.args.b.now c.args.at c.args.taken c.requires.1)
