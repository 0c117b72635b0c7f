use mathlib.Core.Path.{◌∙◌}
use Rattle.image.proofs.ReadOff.{clock-read}
use Rattle.image.proofs.Sheets.{restarted}
use Rattle.image.proofs.runs.restart.Goals as goal

pub returns : goal.returns
returns c = λ t l w. c.restart.ensures ∙ restarted t.tasks t.rest c.args.c _ _ _ _ _ _ (c.start-start.ensures t l) (c.end_waiter-end_waiter.ensures t l) (c.long_in-time.ensures ∙ clock-read t l) (c.holds_any-holding.ensures t l) w.numbers.clock (w.started _)
