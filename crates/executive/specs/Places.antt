-- The blank entries, and the entry of a task by its number: tasks are numbered from 1, and 0 is nobody.
use Rattle.std.specs.Prelude.{cond, List, ℕ, zero, suc, ◌≤◌, ◌<◌, ltb, eqb, length, get_or, set}
use Rattle.records.specs.declared.TaskNo.{TaskNo}
use Rattle.executive.specs.declared.Millis.{Millis}
use Rattle.executive.specs.declared.State.TheVariants.{Dormant}
use Rattle.executive.specs.declared.Task.{Task}
use Rattle.executive.specs.declared.Request.{Request}
use Rattle.executive.specs.Numbers.{most_tasks}
use Rattle.executive.specs.Lists.{one, sum_of}

-- ---- blank entries
abbrev pub nobody : TaskNo
nobody = record { 0 = 0 }

abbrev pub never : Millis
never = record { 0 = 0 }

abbrev pub no_task : Task
no_task = record { own = 0; state = Dormant; priority = 0; argument = 0; start = never; end_waiter = nobody }

abbrev pub no_request : Request
no_request = record { target = nobody; priority = 0; argument = 0; start_waiter = nobody; end_waiter = nobody }

-- ---- tasks are numbered from 1; number 0 is nobody
unfoldable pub task_at : List Task → ℕ → Task
task_at ts zero = no_task
task_at ts (suc i) = get_or ts i no_task

unfoldable pub put_at : List Task → ℕ → Task → List Task
put_at ts zero e = ts
put_at ts (suc i) e = set ts i e

-- the place of number k in an array of sixteen, k - 1; 16, which is no place, where k is 0 or over 16
unfoldable pub entry_place : ℕ → ℕ
entry_place zero = most_tasks
entry_place (suc i) = cond (ltb i most_tasks) i most_tasks

-- a number that names a task
abbrev pub Names : ℕ → List Task → Type 0
Names k ts = (0 < k) × (k ≤ length ts)

-- the priority p of the task numbered n; a number that names no task has none
unfoldable pub priority_at : ℕ → ℕ → ℕ
priority_at n p = cond (ltb (entry_place n) most_tasks) p 0

-- how often number k stands among some
abbrev pub times_in : ℕ → List TaskNo → ℕ
times_in k ks = sum_of (λ (j : TaskNo). one (eqb k j.0)) ks
