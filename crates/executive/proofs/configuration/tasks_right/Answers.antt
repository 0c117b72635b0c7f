-- `executive::configuration::tasks_right` meets its contract.
use mathlib.Core.Path.{refl, sym, ◌∙◌}
use Rattle.executive.specs.Lists.{up_to}
use Rattle.executive.specs.Configuration.{task_right}
use Rattle.executive.proofs.Lists.Loops.{all_more, all-not}
use Rattle.executive.proofs.configuration.tasks_right.Goals as goal

pub loop-i-init : goal.loop-i-init
unfolding up_to
loop-i-init c = refl

pub returns-then-not-task_right : goal.returns-then-not-task_right
returns-then-not-task_right c =
    let v = c.loop-i in
    sym (all-not (task_right c.args.s.now) c.args.n v.i c.loop-i-test.true (sym c.task_right.ensures ∙ c.if-not-task_right.true))

pub loop-i-preserved : goal.loop-i-preserved
loop-i-preserved c =
    let v = c.loop-i in
    all_more (task_right c.args.s.now) v.i v.invariant (sym c.task_right.ensures ∙ c.if-not-task_right.false)
