use mathlib.Core.Path.{sym, ◌∙◌}
use Rattle.scan.proofs.Stepping.{checked_right, checked_wrong}
use Rattle.scan.proofs.Scanned.check.Goals as goal

pub returns-then-is_sound : goal.returns-then-is_sound
returns-then-is_sound c = checked_right c.args.self (sym c.is_sound.ensures ∙ c.if-is_sound.true)

pub returns-else-is_sound : goal.returns-else-is_sound
returns-else-is_sound c = checked_wrong c.args.self (sym c.is_sound.ensures ∙ c.if-is_sound.false)
