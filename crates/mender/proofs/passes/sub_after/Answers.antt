use mathlib.Core.Path.{sym, ◌∙◌}
use Rattle.mender.proofs.CodeLinks.{sub-kept, sub-freed}
use Rattle.mender.proofs.passes.sub_after.Goals as goal

pub returns-else-not-is_busy : goal.returns-else-not-is_busy
returns-else-not-is_busy c = let a = c.args in sub-kept a.count a.tasks a.s (sym c.is_busy.ensures ∙ c.if-not-is_busy.false)

pub returns-then-not-is_busy : goal.returns-then-not-is_busy
returns-then-not-is_busy c = let a = c.args in sub-freed a.count a.tasks a.s (sym c.is_busy.ensures ∙ c.if-not-is_busy.true)
