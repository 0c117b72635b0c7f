use mathlib.Core.Path.{◌∙◌}
use Rattle.image.proofs.Finds.{count-read}
use Rattle.image.proofs.Sheets.{cancelled}
use Rattle.image.proofs.runs.cancel_pause.Goals as goal

pub returns : goal.returns
returns c = λ t l. c.cancel_pause.ensures ∙ cancelled t.tasks t.rest c.args.c _ _ _ (c.entry-e.ensures t l) (count-read t l)
