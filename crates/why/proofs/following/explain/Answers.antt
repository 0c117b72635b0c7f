-- `following::explain` meets its contract: the check, the task's number, and then the path.
use native.Mathlib.Omega.{arith}
use mathlib.Core.Path.{sym, ap, ◌∙◌}
use Rattle.why.specs.declared.Reasons.{Reasons}
use Rattle.why.specs.Paths.{unmet, task_path}
use Rattle.why.proofs.Answering.{formed-by, ill-by, answer-one, answer-none, answer-some}
use Rattle.why.proofs.following.explain.Goals as goal

pub returns-then-check-ne0 : goal.returns-then-check-ne0
returns-then-check-ne0 c =
    let a = c.args in
    c.none.ensures ∙ sym (answer-one a.table a.task (ill-by a.table c.check.result c.check.ensures c.if-check-ne0.true))

pub returns-then-no_such_task : goal.returns-then-no_such_task
returns-then-no_such_task c =
    let a = c.args in
    let w = formed-by a.table c.check.result c.check.ensures (omega (arith, c.if-check-ne0.false)) in
    c.none-then-no_such_task.ensures ∙ sym (answer-none a.table a.task w (sym c.no_such_task.ensures ∙ c.if-no_such_task.true))

pub returns : goal.returns
returns c =
    let a = c.args in
    let w = formed-by a.table c.check.result c.check.ensures (omega (arith, c.if-check-ne0.false)) in
    c.follow_task.ensures ∙ ap (λ (x : Reasons). task_path (unmet x) a.table a.task x) c.none-start.ensures ∙ sym (answer-some a.table a.task w (sym c.no_such_task.ensures ∙ c.if-no_such_task.false))
