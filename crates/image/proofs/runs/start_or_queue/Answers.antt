use mathlib.Core.Path.{◌∙◌}
use Rattle.image.proofs.ReadOff.{queued-read}
use Rattle.image.proofs.Finds.{count-read}
use Rattle.image.proofs.Sheets.{queued}
use Rattle.image.proofs.runs.start_or_queue.Goals as goal

pub returns : goal.returns
returns c = λ t l. c.start_or_queue.ensures ∙ queued t.tasks t.rest c.args.c _ _ _ _ _ _ (c.entry-e.ensures t l) (count-read t l) (queued-read t l)
