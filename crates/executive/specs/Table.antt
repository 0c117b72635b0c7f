-- The table, and the three things that a step does to it: the caller leaves, tasks join, the rest is replaced.
-- The types are the code's own.
use Rattle.std.specs.Prelude.{◌≡◌, Bool, true, false, cond, ℕ, suc, ◌≤◌, ◌<◌, ◌+◌, ◌-◌, ◌^◌, leb, length, take, drop}
use mathlib.Core.List.{List, [], ◌∷◌, tail, ◌++◌}
use Rattle.std.specs.Int.Bits.{bit_or}
use Rattle.records.specs.declared.TaskNo.{TaskNo}
use Rattle.executive.specs.declared.Task.{Task}
use Rattle.executive.specs.declared.Rest.{Rest}
use Rattle.executive.specs.declared.Table.{Table}
use Rattle.executive.specs.declared.Work.{Work}
use Rattle.executive.specs.Numbers.{most_tasks, end_of_time, highest}
use Rattle.executive.specs.Queue.{Item, Moves, behind, count, sum_below}
use Rattle.executive.specs.Lists.{pad}
use Rattle.executive.specs.Places.{task_at, nobody, put_at}
use Rattle.executive.specs.Pool.{PoolInOrder}

-- the ready queue and the queued requests, first to last
abbrev pub line : Table → List TaskNo
line t = take t.ready t.queue

pub record ArraysInOrder (t : Table) : Type 0 where
  pub all : length t.tasks ≡ most_tasks
  pub few : t.ready ≤ most_tasks
  pub tidy : t.queue ≡ pad most_tasks nobody (line t)
  pub neat : PoolInOrder t.rest

-- what the calls' methods ask of a table, besides a caller: the arrays in order, no time out of range
pub record TimesInOrder (t : Table) : Type 0 where
  pub fit : ArraysInOrder t
  pub clocked : t.rest.clock.0 ≤ end_of_time
  pub started : (k : ℕ) → (task_at t.tasks k).start.0 ≤ t.rest.clock.0

-- the queue of numbers, with the priorities of a list of tasks
abbrev pub item_of : List Task → TaskNo → Item
item_of ts k = record { task = k.0; prio = (task_at ts k.0).priority }

unfoldable pub items : List Task → List TaskNo → List Item
items ts [] = []
items ts (k ∷ ks) = item_of ts k ∷ items ts ks

abbrev pub view : Table → List Item
view t = items t.tasks (line t)

-- ---- the word of the ready levels (02): bit p for a ready task of priority p. A priority over 15, which no well-formed
-- table holds, has no bit
abbrev pub level_bit : ℕ → ℕ
level_bit p = cond (leb p highest) (2 ^ p) 0

unfoldable pub levels_of : List Item → ℕ
levels_of [] = 0
levels_of (x ∷ xs) = bit_or (level_bit x.prio) (levels_of xs)

-- the table with the word of its queue
abbrev pub relit : Table → Table
relit t = record { tasks = t.tasks; queue = t.queue; ready = t.ready; levels = levels_of (view t); rest = t.rest }

-- the number k goes behind all of equal or higher priority
unfoldable pub enter_at : List Task → TaskNo → List TaskNo → List TaskNo
enter_at ts k [] = k ∷ []
enter_at ts k (j ∷ js) = cond (behind (task_at ts k.0).priority (task_at ts j.0).priority) (j ∷ enter_at ts k js) (k ∷ j ∷ js)

-- how many at the front stay ahead of a task of priority p: all of equal or higher priority
unfoldable pub ahead_of : List Task → ℕ → List TaskNo → ℕ
ahead_of ts p [] = 0
ahead_of ts p (x ∷ xs) = cond (behind p (task_at ts x.0).priority) (suc (ahead_of ts p xs)) 0

abbrev pub head_of : List TaskNo → TaskNo
head_of [] = nobody
head_of (k ∷ ks) = k

-- ---- the two moves: the caller leaves with entry e; task k enters with entry e. The word is said once a step, at its
-- end; the code keeps it on the way
abbrev pub with_line : List Task → List TaskNo → Table → Table
with_line ts xs t = record { tasks = ts; queue = pad most_tasks nobody xs; ready = length xs; levels = t.levels; rest = t.rest }

unfoldable pub departed : Task → Table → Table
departed e t = with_line (put_at t.tasks (head_of (line t)).0 e) (tail (line t)) t

unfoldable pub entered : TaskNo → Task → Table → Table
entered k e t = with_line (put_at t.tasks k.0 e) (enter_at (put_at t.tasks k.0 e) k (line t)) t

abbrev pub with_rest : Rest → Table → Table
with_rest r t = record { tasks = t.tasks; queue = t.queue; ready = t.ready; levels = t.levels; rest = r }

-- ---- the plan of a step
pub data Out : Type 0 where
  stays : Out
  leaves : (Task → Task) → Out  -- how its departure changes the caller's entry

pub record Join : Type 0 where
  pub who : TaskNo
  pub change : Task → Task  -- how its entry changes as it enters

pub record Plan : Type 0 where
  pub out : Out
  pub ins : List Join
  pub rest : Rest

unfoldable pub depart : Out → Table → Table
depart stays t = t
depart (leaves f) t = departed (f (task_at t.tasks (head_of (line t)).0)) t

unfoldable pub join : Join → Table → Table
join j t = entered j.who (j.change (task_at t.tasks j.who.0)) t

unfoldable pub joins : List Join → Table → Table
joins [] t = t
joins (j ∷ js) t = joins js (join j t)

-- one after the other, each that enters stands nowhere in the queue at that moment, and one place at least is free
abbrev pub FindsRoom : List Join → Table → Type 0
FindsRoom [] t = Unit {0}
FindsRoom (j ∷ js) t = (count j.who.0 (view t) ≡ 0) × (t.ready < most_tasks) × FindsRoom js (join j t)

unfoldable pub apply : Plan → Table → Table
apply p t = relit (with_rest p.rest (joins p.ins (depart p.out t)))

-- ---- the same in flight, with the count of those who were passed over
abbrev pub begin : Table → Work
begin t = record { table = t; walked = 0 }

-- those whom task k is put behind as it enters with entry e
abbrev pub passed_by : TaskNo → Task → Table → ℕ
passed_by k e t = ahead_of (put_at t.tasks k.0 e) (task_at (put_at t.tasks k.0 e) k.0).priority (line t)

unfoldable pub enter_in_flight : TaskNo → Task → Work → Work
enter_in_flight k e w = record { table = entered k e w.table; walked = w.walked + passed_by k e w.table }

-- what every method in flight asks: the arrays in order, room for the n who are still to enter, a count that no more
-- than those who are ready can have made, and the word of those who are ready
pub record InFlight (n : ℕ) (w : Work) : Type 0 where
  pub fit : ArraysInOrder w.table
  pub room : w.table.ready + n ≤ most_tasks
  pub walked : w.walked ≤ sum_below w.table.ready
  pub lit : w.table.levels ≡ levels_of (view w.table)

unfoldable pub enter_all_in_flight : List Join → Work → Work
enter_all_in_flight [] w = w
enter_all_in_flight (j ∷ js) w = enter_all_in_flight js (enter_in_flight j.who (j.change (task_at w.table.tasks j.who.0)) w)

abbrev pub rest_in_flight : Rest → Work → Work
rest_in_flight r w = record { table = with_rest r w.table; walked = w.walked }

abbrev pub lit_in_flight : Work → Work
lit_in_flight w = record { table = relit w.table; walked = w.walked }

unfoldable pub apply_in_flight : Plan → Table → Work
apply_in_flight p t = lit_in_flight (rest_in_flight p.rest (enter_all_in_flight p.ins (begin (depart p.out t))))

-- ---- what the plan does to the queue: its departure and its entries, and no others
abbrev pub left? : Out → Bool
left? stays = false
left? (leaves f) = true

-- the tasks with the entry of k changed
abbrev pub change-at : List Task → ℕ → (Task → Task) → List Task
change-at ts k f = put_at ts k (f (task_at ts k))

-- the item that enters: its number, and the priority that its changed entry has
abbrev pub enters_as : Join → List Task → Item
enters_as j ts = record { task = j.who.0; prio = (j.change (task_at ts j.who.0)).priority }

unfoldable pub entries : List Join → List Task → List Item
entries [] ts = []
entries (j ∷ js) ts = enters_as j ts ∷ entries js (change-at ts j.who.0 j.change)

abbrev pub out_tasks : Out → List Task → ℕ → List Task
out_tasks stays ts c = ts
out_tasks (leaves f) ts c = change-at ts c f

unfoldable pub moves_of : Plan → Table → Moves
moves_of p t = record { out = left? p.out; ins = entries p.ins (out_tasks p.out t.tasks (head_of (line t)).0) }

-- r places are taken, and k comes in at one of them or behind them
unfoldable pub slid_of : {A : Type 0} → List A → ℕ → ℕ → A → List A
slid_of q at r k = take at q ++ (k ∷ (take (r - at) (drop at q) ++ drop (r + 1) q))
