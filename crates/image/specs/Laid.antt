-- Bytes that are the image of a table, and a table with one part changed: what the moves in place are said by.
use Rattle.std.specs.Prelude.{ℕ, ◌+◌, ◌<◌, ◌≡◌, List, length, get_or}
use Rattle.records.specs.declared.TaskNo.{TaskNo}
use Rattle.executive.specs.declared.Millis.{Millis}
use Rattle.executive.specs.declared.Task.{Task}
use Rattle.executive.specs.declared.Request.{Request}
use Rattle.executive.specs.declared.Table.{Table}
use Rattle.executive.specs.Places.{nobody}
use Rattle.executive.specs.Table.{with_rest}
use Rattle.executive.specs.Rest.{remade}
use Rattle.executive.specs.WellFormed.{Sizes}
use Rattle.image.specs.Image.{image_of}

-- the bytes are the image of this table, whose arrays have their lengths
pub record Laid (s : List ℕ) (t : Table) : Type 0 where
  pub image : s ≡ image_of t
  pub sizes : Sizes t

-- the sixteen bytes from a place on are this line
pub record LineAt (s : List ℕ) (base : ℕ) (q : List TaskNo) : Type 0 where
  pub size : length q ≡ 16
  pub places : (i : ℕ) → i < 16 → get_or s (base + i) 0 ≡ (get_or q i nobody).0

-- ---- the table with one part changed
abbrev pub with_tasks : List Task → Table → Table
with_tasks ts t = record { tasks = ts; queue = t.queue; ready = t.ready; levels = t.levels; rest = t.rest }

abbrev pub with_queue : List TaskNo → Table → Table
with_queue q t = record { tasks = t.tasks; queue = q; ready = t.ready; levels = t.levels; rest = t.rest }

abbrev pub with_ready : ℕ → Table → Table
with_ready n t = record { tasks = t.tasks; queue = t.queue; ready = n; levels = t.levels; rest = t.rest }

abbrev pub with_levels : ℕ → Table → Table
with_levels n t = record { tasks = t.tasks; queue = t.queue; ready = t.ready; levels = n; rest = t.rest }

-- ---- an entry with one part changed: its run, of which a request has priority, argument and waiter; one field of it
abbrev pub with_run : Request → Millis → Task → Task
with_run q m e = record { own = e.own; state = e.state; priority = q.priority; argument = q.argument; start = m; end_waiter = q.end_waiter }

abbrev pub with_start : Millis → Task → Task
with_start m e = record { own = e.own; state = e.state; priority = e.priority; argument = e.argument; start = m; end_waiter = e.end_waiter }

abbrev pub with_waiter : TaskNo → Task → Task
with_waiter w e = record { own = e.own; state = e.state; priority = e.priority; argument = e.argument; start = e.start; end_waiter = w }

abbrev pub with_pool : List Request → ℕ → Table → Table
with_pool p n t = with_rest (remade t.rest.clock t.rest.flags t.rest.alarms p n t.rest) t
