use mathlib.Core.Path.{ap, sym, ◌∙◌}
use Rattle.executive.proofs.executing.Leaving.{left-gone, left-stays}
use Rattle.executive.specs.Table.{relit}
use Rattle.executive.proofs.levels.OnTheWay.{lit-same}
use Rattle.executive.proofs.Table.left.Goals as goal

pub returns-then-leaves : goal.returns-then-leaves
returns-then-leaves c = c.depart.ensures ∙ ap relit (left-gone c.args.how c.args.self (sym c.leaves.ensures ∙ c.if-leaves.true))

pub returns-else-leaves : goal.returns-else-leaves
returns-else-leaves c =
    lit-same c.args.self c.requires.2 ∙ ap relit (left-stays c.args.how c.args.self (sym c.leaves.ensures ∙ c.if-leaves.false))
