use mathlib.Core.Path.{◌∙◌}
use Rattle.image.proofs.ReadOff.{flags-read}
use Rattle.image.proofs.Sheets.{waited}
use Rattle.image.proofs.runs.wait.Goals as goal

pub returns : goal.returns
returns c = λ t l. c.wait.ensures ∙ waited t.tasks t.rest c.args.c _ _ _ (c.word_in-set.ensures ∙ flags-read t l)
