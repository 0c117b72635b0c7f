-- How far those that enter walk (02): how many ready tasks each is put behind, and all of a step together.
use Rattle.std.specs.Prelude.{◌≡◌, ◌≢◌, List, [], ◌∷◌, ◌++◌, ℕ, ◌≤◌, replicate}
use Rattle.records.specs.Numbers.{Bytes}
use Rattle.records.specs.declared.TaskNo.{TaskNo}
use Rattle.executive.specs.declared.State.{State}
use Rattle.executive.specs.declared.State.TheVariants.{Ready, Paused}
use Rattle.executive.specs.declared.Task.{Task}
use Rattle.executive.specs.declared.Table.{Table}
use Rattle.executive.specs.Numbers.{most_tasks}
use Rattle.executive.specs.Lists.{pad}
use Rattle.executive.specs.Places.{nobody, never}
use Rattle.executive.specs.Queue.{Item, Moves, left, walk, EachWalks}
use Rattle.executive.specs.Table.{view, moves_of, items, levels_of}
use Rattle.executive.specs.WellFormed.{WellFormed}
use Rattle.executive.specs.Step.{step_of}
use Rattle.executive.specs.Configuration.{blank_rest, dormant_at}
use Rattle.executive.specs.Promises.Demands.{plan_of_record}

-- what a record does to the queue, and the queue that its first entry finds: a caller that departed is not in it
abbrev pub moves_in : Table → List ℕ → Moves
moves_in t s = moves_of (plan_of_record t s) t

abbrev pub queue_for : Table → List ℕ → List Item
queue_for t s = left (moves_in t s).out (view t)

-- ---- sixteen tasks of one priority: all paused until the next tick; all ready but the last, which is dormant
abbrev pub no : ℕ → TaskNo
no k = record { 0 = k }

abbrev pub equal : State → Task
equal s = record { own = 7; state = s; priority = 7; argument = 0; start = never; end_waiter = nobody }

abbrev pub table_of : List Task → List TaskNo → ℕ → Table
table_of ts q n = record { tasks = ts; queue = pad most_tasks nobody q; ready = n; levels = levels_of (items ts q); rest = blank_rest most_tasks 1 }

unfoldable pub all_paused : Table
all_paused = table_of (replicate 16 (equal (Paused (record { 0 = 1 })))) [] 0

unfoldable pub last_dormant : Table
last_dormant =
    table_of (replicate 15 (equal Ready) ++ (dormant_at 7 ∷ []))
    (no 1 ∷ no 2 ∷ no 3 ∷ no 4 ∷ no 5 ∷ no 6 ∷ no 7 ∷ no 8
    ∷ no 9 ∷ no 10 ∷ no 11 ∷ no 12 ∷ no 13 ∷ no 14 ∷ no 15 ∷ []) 15

pub record Walks : Type 0 where
  -- the answer's count is the sum over those that enter of all of equal or higher priority that are ready then
  pub counted : (t : Table) (s : List ℕ) → WellFormed t → Bytes s → (step_of t s).answer.walked ≡ walk (moves_in t s).ins (queue_for t s)
  pub each : (t : Table) (s : List ℕ) → WellFormed t → Bytes s → EachWalks (moves_in t s).ins (queue_for t s)
  -- whatever the table
  pub most : (t : Table) (s : List ℕ) → Bytes s → (step_of t s).answer.walked ≤ 120
  pub refused : (t : Table) (s : List ℕ) → (step_of t s).answer.number ≢ 0 → (step_of t s).answer.walked ≡ 0
  -- both bounds are met: by the tick that wakes sixteen, and by one that starts behind fifteen
  pub met : ((step_of all_paused (0x80 ∷ [])).answer.walked ≡ 120) × ((step_of last_dormant (0x04 ∷ 0x80 ∷ 16 ∷ [])).answer.walked ≡ 15)
