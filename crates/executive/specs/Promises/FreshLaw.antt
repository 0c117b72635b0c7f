-- What holds of every configuration and its fresh table, as one list under one statement.
use Rattle.std.specs.Prelude.{ℕ, suc, ◌≤◌, ◌≡◌, true, false, cond, List, [], ◌∷◌, ◌++◌, map, ◌↔◌, eqb, length}
use Rattle.records.specs.Numbers.{Bytes}
use Rattle.executive.specs.declared.State.TheVariants.{Ready}
use Rattle.executive.specs.declared.Task.{Task}
use Rattle.executive.specs.declared.Answer.{Answer}
use Rattle.executive.specs.declared.Table.{Table}
use Rattle.executive.specs.Numbers.{most_tasks, most_queued, flag_count, highest}
use Rattle.executive.specs.Queue.{Item, inserts}
use Rattle.executive.specs.Lists.{pad}
use Rattle.executive.specs.Places.{nobody, never, no_task, no_request}
use Rattle.executive.specs.Messages.{no_text}
use Rattle.executive.specs.Table.{view, FindsRoom}
use Rattle.executive.specs.WellFormed.{WellFormed}
use Rattle.executive.specs.Configuration.{tasks_in, configuration_in, is_configuration, zero_table, dormant_at, dormant_table}
use Rattle.executive.specs.Configuration.{starters, fresh_table, made_by, fresh_of}
use Rattle.executive.specs.Promises.Demands.{Dispatched}

-- ---- a configuration in words (docs/CALLS.md, 3): one 40, then 1 to 16 of 41, then 42, and nothing more
-- what the record of a task gives: own priority 0 to 15; mark 1 or 0
pub record Entry : Type 0 where
  pub own : ℕ
  pub mark : ℕ

unfoldable pub records_of : List Entry → List ℕ
records_of [] = 0x42 ∷ []
records_of (e ∷ es) = 0x41 ∷ e.own ∷ e.mark ∷ records_of es

abbrev pub AllRight : List Entry → Type 0
AllRight [] = Unit {0}
AllRight (e ∷ es) = (e.own ≤ highest) × (e.mark ≤ 1) × AllRight es

pub record Configuration (s : List ℕ) : Type 0 where
  pub granule : ℕ
  pub tasks : List Entry
  pub bytes : s ≡ 0x40 ∷ granule ∷ records_of tasks
  pub some : 1 ≤ length tasks
  pub few : length tasks ≤ most_tasks
  pub time : 1 ≤ granule
  pub right : AllRight tasks

-- ---- the fresh table in words: the marked tasks start in ascending number at their own priority, with argument 0
-- and scheduled start 0
abbrev pub started_at : ℕ → Task
started_at p = record { own = p; state = Ready; priority = p; argument = 0; start = never; end_waiter = nobody }

abbrev pub entry_of : Entry → Task
entry_of e = cond (eqb e.mark 1) (started_at e.own) (dormant_at e.own)

-- the marked ones of some tasks, the first of them numbered k
unfoldable pub marked : ℕ → List Entry → List Item
marked k [] = []
marked k (e ∷ es) = cond (eqb e.mark 1) (record { task = k; prio = e.own } ∷ marked (suc k) es) (marked (suc k) es)

pub record SaidOut (g : ℕ) (es : List Entry) (t : Table) : Type 0 where
  pub count : t.rest.count ≡ length es
  pub granule : t.rest.granule ≡ g
  -- the marked are ready, all others dormant, each with its own priority; the places past the count are zero
  pub tasks : t.tasks ≡ pad most_tasks no_task (map entry_of es)
  -- the marked entered the empty queue, in ascending number
  pub queue : view t ≡ inserts (marked 1 es) []
  pub no-alarm : t.rest.alarms ≡ pad flag_count never []
  pub no-request : (t.rest.queued ≡ 0) × (t.rest.pool ≡ pad most_queued no_request [])

-- the answer to bytes that are no configuration
abbrev pub no_configuration : Answer
no_configuration = record {
  number = 2;
  z = false;
  v = false;
  c = false;
  active = nobody;
  argument = 0;
  skipped = 0;
  walked = 0;
  sender = nobody;
  text = no_text;
}

-- the configuration of 01's listing
abbrev pub listing : List ℕ
listing = 0x40 ∷ 0x0A ∷ 0x41 ∷ 0x07 ∷ 0x01 ∷ 0x41 ∷ 0x05 ∷ 0x01 ∷ 0x41 ∷ 0x07 ∷ 0x00 ∷ 0x42 ∷ []

pub record FreshLaw : Type 0 where
  -- the test of the bytes, which `fresh_of` makes, passes exactly where they are a configuration
  pub exactly : (s : List ℕ) → (is_configuration s ≡ true) ↔ Configuration s
  -- from any configuration the fresh table is well formed, and each that starts finds room
  pub formed : (s : List ℕ) → Bytes s → is_configuration s ≡ true → WellFormed (fresh_table s)
  pub room : (s : List ℕ) → Bytes s → is_configuration s ≡ true → FindsRoom (starters s (tasks_in s) 1) (dormant_table s)
  pub said-out : (s : List ℕ) → Bytes s → (c : Configuration s) → SaidOut c.granule c.tasks (fresh_table s)
  -- its clock is 0, no flag is set
  pub clock : (s : List ℕ) → (fresh_table s).rest.clock.0 ≡ 0
  pub flags : (s : List ℕ) → (fresh_table s).rest.flags ≡ 0
  -- a configuration gives number 0 and that table; any other bytes give number 2, all else of the answer 0, and the
  -- all-zero table
  pub made : (s : List ℕ) → is_configuration s ≡ true → fresh_of s ≡ made_by 0 (fresh_table s)
  pub refused : (s : List ℕ) → is_configuration s ≡ false → fresh_of s ≡ record { answer = no_configuration; table = zero_table }
  -- the answer's active task is the first of those with highest priority, and nobody exactly if none is started
  pub dispatched : (s : List ℕ) → Bytes s → is_configuration s ≡ true
      → Dispatched (fresh_of s).table (fresh_of s).answer.active.0
  -- a configuration is no longer than the bytes that begin with it; whatever follows it, it is found again by its
  -- length
  pub within : (s : List ℕ) → configuration_in s ≤ length s
  pub ends : (s r : List ℕ) → is_configuration s ≡ true → configuration_in (s ++ r) ≡ length s
  -- the listing's configuration: number 0, task 1 is active, three tasks
  pub example : ((fresh_of listing).answer.number ≡ 0) × ((fresh_of listing).answer.active.0 ≡ 1)
      × ((fresh_of listing).table.rest.count ≡ 3)
