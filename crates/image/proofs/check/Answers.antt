-- `check` meets its contract: 0 exactly where the bytes are the image of a well-formed table.
use mathlib.Core.Path.{sym, ◌∙◌}
use Rattle.image.proofs.Answered.{check_sound, check_unsound}
use Rattle.image.proofs.check.Goals as goal

pub returns-then-is_sound : goal.returns-then-is_sound
returns-then-is_sound c = check_sound c.args.image.now (sym c.is_sound.ensures ∙ c.if-is_sound.true)

pub returns : goal.returns
returns c = check_unsound c.args.image.now (sym c.is_sound.ensures ∙ c.if-is_sound.false)
