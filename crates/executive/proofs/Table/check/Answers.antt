use mathlib.Core.Path.{sym, ◌∙◌}
use Rattle.executive.proofs.check.Decides.{checked_right, checked_wrong}
use Rattle.executive.proofs.Table.check.Goals as goal

pub returns-then-is_well_formed : goal.returns-then-is_well_formed
returns-then-is_well_formed c = checked_right c.args.self (sym c.is_well_formed.ensures ∙ c.if-is_well_formed.true)

pub returns : goal.returns
returns c = checked_wrong c.args.self (sym c.is_well_formed.ensures ∙ c.if-is_well_formed.false)
