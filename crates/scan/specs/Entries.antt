-- The entries of the second engine, which keeps no queue: a task's entry with its arrival number, read and rewritten by
-- the task's number; and what is counted among them.
use Rattle.std.specs.Prelude.{ℕ, zero, suc, Bool, List, map, leb, ltb, eqb, get_or, set}
use Rattle.executive.specs.declared.Task.{Task}
use Rattle.executive.specs.Lists.{one, sum_of, ◌and◌}
use Rattle.executive.specs.Places.{no_task}
use Rattle.executive.specs.States.{ready, is_of}
use Rattle.scan.specs.declared.Entry.{Entry}

-- the last arrival number that can be given, 2^32 - 1
abbrev pub most_arrivals : ℕ
most_arrivals = 4294967295

abbrev pub entry : Task → ℕ → Entry
entry e n = record { task = e; arrival = n }

abbrev pub no_entry : Entry
no_entry = entry no_task 0

-- the tasks' own entries, without their numbers
abbrev pub task_of : Entry → Task
task_of x = x.task

abbrev pub tasks_in : List Entry → List Task
tasks_in es = map task_of es

-- ---- tasks are numbered from 1; number 0 is nobody
unfoldable pub entry_at : List Entry → ℕ → Entry
entry_at es zero = no_entry
entry_at es (suc i) = get_or es i no_entry

unfoldable pub put_entry : List Entry → ℕ → Entry → List Entry
put_entry es zero x = es
put_entry es (suc i) x = set es i x

-- ---- whether a task is ready
abbrev pub is_ready : Entry → Bool
is_ready x = is_of ready x.task.state

-- ---- what is counted: the ready entries; those of them with a number under n; those of them with priority p or a
-- higher one; all entries that bear the number n
abbrev pub is_earlier : ℕ → Entry → Bool
is_earlier n x = is_ready x and ltb x.arrival n

abbrev pub is_at_least : ℕ → Entry → Bool
is_at_least p x = is_ready x and leb p x.task.priority

abbrev pub is_bearer : ℕ → Entry → Bool
is_bearer n x = eqb n x.arrival

abbrev pub count_of : (Entry → Bool) → List Entry → ℕ
count_of counts es = sum_of (λ (x : Entry). one (counts x)) es
