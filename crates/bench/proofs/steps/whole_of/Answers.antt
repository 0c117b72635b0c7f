use Rattle.std.proofs.Common.{sym, ◌∙◌, arith}
use Rattle.bench.proofs.Told.{whole-none, whole-cut, whole_is}
use Rattle.bench.proofs.steps.whole_of.Goals as goal

pub returns-in-0 : goal.returns-in-0
returns-in-0 c = whole-none c.args.left.now (sym c.step_length.ensures ∙ c.in-0.is)

pub returns-in_default : goal.returns-in_default
returns-in_default c = whole-cut c.args.left.now (rw c.step_length.ensures at c.if-left-n.true)

pub returns-in_default-2 : goal.returns-in_default-2
returns-in_default-2 c = (
  omega arith,
  c.step_length.ensures ∙ whole_is c.args.left.now (rw c.step_length.ensures at c.if-left-n.false),
)
