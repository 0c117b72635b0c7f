use mathlib.Core.Path.{◌∙◌}
use Rattle.image.proofs.Finds.{count-read}
use Rattle.image.proofs.Sheets.{started}
use Rattle.image.proofs.runs.start_if_dormant.Goals as goal

pub returns : goal.returns
returns c = λ t l. c.start_if_dormant.ensures ∙ started t.tasks t.rest c.args.c _ _ _ _ (c.entry-e.ensures t l) (count-read t l)
