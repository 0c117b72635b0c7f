use mathlib.Core.Path.{◌∙◌}
use Rattle.image.proofs.ReadOff.{clock-read}
use Rattle.image.proofs.Sheets.{paused}
use Rattle.image.proofs.runs.pause.Goals as goal

pub returns : goal.returns
returns c = λ t l w. c.pause.ensures ∙ paused t.tasks t.rest c.args.c _ _ _ (c.long_in-time.ensures ∙ clock-read t l) w.numbers.clock
