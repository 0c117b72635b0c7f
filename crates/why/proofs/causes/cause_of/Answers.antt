-- `causes::cause_of` meets its contract: a ready task is told by the queue of items, which the code looks at by number.
use mathlib.Core.Path.{refl, ◌∙◌}
use Rattle.why.proofs.Causing.{ahead-items, cause-at}
use Rattle.why.proofs.causes.cause_of.Goals as goal

pub returns-in-Ready : goal.returns-in-Ready
returns-in-Ready c =
    let a = c.args in
    cause-at a.t.now a.k.0 c.task_at.ensures c.in-Ready.is (c.by_queue.ensures ∙ rw (ahead-items a.t.now.tasks a.k.0) refl)
