-- The fresh table of a configuration (docs/CALLS.md, 3): one 40, then 1 to 16 of 41, then 42, and nothing more.
use Rattle.std.specs.Prelude.{ℕ, zero, suc, ◌+◌, ◌-◌, ◌*◌, ◌≡◌, Bool, false, cond, List, [], ◌∷◌, ◌++◌, eqb, leb, length, get_or}
use Rattle.executive.specs.declared.State.TheVariants.{Dormant}
use Rattle.executive.specs.declared.AwaitedMoment.TheVariants.{ForNothing}
use Rattle.executive.specs.declared.Task.{Task}
use Rattle.executive.specs.declared.Rest.{Rest}
use Rattle.executive.specs.declared.Table.{Table}
use Rattle.executive.specs.declared.Fresh.{Fresh}
use Rattle.executive.specs.Numbers.{most_tasks, most_queued, most_sent, flag_count, sub_count, highest}
use Rattle.executive.specs.Lists.{pad, ◌and◌, up_to}
use Rattle.executive.specs.Places.{nobody, never, no_task, no_request}
use Rattle.executive.specs.Table.{relit, Join, begin, enter_all_in_flight}
use Rattle.executive.specs.Subprograms.{no_subprogram}
use Rattle.executive.specs.Messages.{no_message, no_mail}
use Rattle.executive.specs.Plans.{asks, begins}
use Rattle.executive.specs.Sheet.{marks}
use Rattle.executive.specs.Step.{answer_of}

-- ---- the bytes: 40, granule; for each task 41, own priority, mark; 42. The record of task k stands at a place
abbrev pub granule_in : List ℕ → ℕ
granule_in s = get_or s 1 0

abbrev pub place_in : ℕ → ℕ
place_in k = 3 * k - 1

abbrev pub own_in : List ℕ → ℕ → ℕ
own_in s k = get_or s (place_in k + 1) 0

abbrev pub mark_in : List ℕ → ℕ → ℕ
mark_in s k = get_or s (place_in k + 2) 0

-- how many 41 follow one another, the first at task k's place; n at most
unfoldable pub tasks_from : List ℕ → ℕ → ℕ → ℕ
tasks_from s zero k = 0
tasks_from s (suc n) k = cond (eqb (get_or s (place_in k) 0) 0x41) (suc (tasks_from s n (suc k))) 0

unfoldable pub tasks_in : List ℕ → ℕ
tasks_in s = tasks_from s most_tasks 1

-- the length of the configuration that some bytes begin with, up to its 42; 0 where they begin with none. Ranges
-- are not looked at
unfoldable pub configuration_in : List ℕ → ℕ
configuration_in s = cond (eqb (get_or s 0 0) 0x40 and eqb (get_or s (place_in (tasks_in s + 1)) 0) 0x42) (3 * tasks_in s + 3) 0

-- own priority 0 to 15; mark 1 or 0
unfoldable pub task_right : List ℕ → ℕ → Bool
task_right s k = leb (own_in s k) highest and leb (mark_in s k) 1

-- one task at least; nothing more than the configuration; granule 1 to 255; each task's numbers in range
unfoldable pub is_configuration : List ℕ → Bool
is_configuration s = leb 1 (tasks_in s) and eqb (length s) (configuration_in s) and leb 1 (granule_in s) and up_to (task_right s) (tasks_in s)

-- ---- the tables: all zero; every task dormant, with its own priority
abbrev pub blank_rest : ℕ → ℕ → Rest
blank_rest n g = record {
  count = n;
  granule = g;
  clock = never;
  flags = 0;
  alarms = pad flag_count never [];
  pool = pad most_queued no_request [];
  queued = 0;
  subs = pad sub_count no_subprogram [];
  messages = pad most_sent no_message [];
  sent = 0;
  mail = pad most_tasks no_mail [];
}

-- nobody is ready
abbrev pub with_tasks : List Task → Rest → Table
with_tasks ts r = record { tasks = ts; queue = pad most_tasks nobody []; ready = 0; levels = 0; rest = r }

abbrev pub zero_table : Table
zero_table = with_tasks (pad most_tasks no_task []) (blank_rest 0 0)

abbrev pub dormant_at : ℕ → Task
dormant_at p = record { own = p; state = Dormant; priority = 0; argument = 0; start = never; end_waiter = nobody }

-- the tasks from number k on, n of them
unfoldable pub sleepers : List ℕ → ℕ → ℕ → List Task
sleepers s zero k = []
sleepers s (suc n) k = dormant_at (own_in s k) ∷ sleepers s n (suc k)

unfoldable pub dormant_table : List ℕ → Table
dormant_table s = with_tasks (pad most_tasks no_task (sleepers s (tasks_in s) 1)) (blank_rest (tasks_in s) (granule_in s))

-- the marked tasks start in ascending number at their own priority, with argument 0 and scheduled start 0
unfoldable pub marked_start : List ℕ → ℕ → List Join
marked_start s k = cond (eqb (mark_in s k) 1) (begins (record { 0 = k }) (asks nobody ForNothing (record { 0 = k }) (own_in s k) 0) never ∷ []) []

unfoldable pub starters : List ℕ → ℕ → ℕ → List Join
starters s zero k = []
starters s (suc n) k = marked_start s k ++ starters s n (suc k)

unfoldable pub fresh_table : List ℕ → Table
fresh_table s = relit (enter_all_in_flight (starters s (tasks_in s) 1) (begin (dormant_table s))).table

-- a table with its answer: Z, V and C are 0, the active task and its argument are the table's
abbrev pub made_by : ℕ → Table → Fresh
made_by n t = record { answer = answer_of n (marks false false false) 0 t; table = t }

-- number 0 and the table, or number 2 and the all-zero table, in which nobody is active
unfoldable pub fresh_of : List ℕ → Fresh
fresh_of s = cond (is_configuration s) (made_by 0 (fresh_table s)) (made_by 2 zero_table)

-- ---- the contracts: f is what the bytes s make; n is the length of the configuration that they begin with
abbrev pub Makes : List ℕ → Fresh → Type 0
Makes s f = f ≡ fresh_of s

abbrev pub Measures : List ℕ → ℕ → Type 0
Measures s n = n ≡ configuration_in s
