use mathlib.Core.Path.{refl}
use Rattle.scan.proofs.Places.{tasks-at}
use Rattle.scan.proofs.Scanned.answer.Goals as goal

pub returns : goal.returns
returns c =
    rw (c.task_at-task.ensures, c.tasks_in.ensures, c.active-active.ensures, tasks-at c.args.self.entries _) refl
