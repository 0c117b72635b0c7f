use mathlib.Core.Path.{sym, ◌∙◌}
use Rattle.scan.proofs.Moving.{left-gone, left-stays}
use Rattle.scan.proofs.Scanned.left.Goals as goal

pub returns-then-leaves : goal.returns-then-leaves
returns-then-leaves c = c.depart.ensures ∙ left-gone c.args.how c.args.self (sym c.leaves.ensures ∙ c.if-leaves.true)

pub returns : goal.returns
returns c = left-stays c.args.how c.args.self (sym c.leaves.ensures ∙ c.if-leaves.false)
