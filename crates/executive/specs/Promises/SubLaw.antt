-- One at a time through a controlled subprogram (02): who is handed it, who holds it after a step, and that neither its
-- holder nor one who waits for it is ever lost.
use Rattle.std.specs.Prelude.{ℕ, ◌≤◌, ◌<◌, ◌≡◌, ◌≢◌, List, [], ◌∷◌, replicate}
use Rattle.records.specs.declared.SubNo.{SubNo}
use Rattle.records.specs.declared.Call.{Call}
use Rattle.records.specs.declared.Call.TheVariants as call
use Rattle.records.specs.Numbers.{Bytes}
use Rattle.executive.specs.declared.State.{State}
use Rattle.executive.specs.declared.State.TheVariants.{Dormant, Ready, AwaitSub}
use Rattle.executive.specs.declared.Task.{Task}
use Rattle.executive.specs.declared.Table.{Table}
use Rattle.executive.specs.Numbers.{most_tasks}
use Rattle.executive.specs.Lists.{pad}
use Rattle.executive.specs.Queue.{Item, count, ahead, active_of}
use Rattle.executive.specs.Places.{nobody, never, task_at}
use Rattle.executive.specs.Table.{items, levels_of}
use Rattle.executive.specs.Subprograms.{held_by, sub_at, line_of, with_sub}
use Rattle.executive.specs.Plans.{caller}
use Rattle.executive.specs.WellFormed.{WellFormed}
use Rattle.executive.specs.Refusals.{call_in}
use Rattle.executive.specs.Step.{step_of}
use Rattle.executive.specs.Configuration.{blank_rest, dormant_at}
use Rattle.executive.specs.Promises.Demands.{after, AllBytes}
use Rattle.executive.specs.Promises.Walks.{no}

-- the number of the task that holds subprogram m, 0 where it is free; those who stand in its line; task k waits for it
abbrev pub holder_of : Table → SubNo → ℕ
holder_of t m = (sub_at t.rest m.0).holder.0

abbrev pub waiters_of : Table → SubNo → List Item
waiters_of t m = items t.tasks (line_of (sub_at t.rest m.0))

abbrev pub Waits : Table → SubNo → ℕ → Type 0
Waits t m k = (task_at t.tasks k).state ≡ AwaitSub m

-- the record s is accepted at the table t, and holds the call c
pub record Does (t : Table) (s : List ℕ) (c : Call) : Type 0 where
  pub accepted : (step_of t s).answer.number ≡ 0
  pub call : call_in s ≡ c

-- ---- of those who wait for m none has a higher priority than task k, and of its equals it stands first
pub record Next (t : Table) (m : SubNo) (k : ℕ) : Type 0 where
  pub waits : Waits t m k
  pub highest : (j : ℕ) → Waits t m j → (task_at t.tasks j).priority ≤ (task_at t.tasks k).priority
  pub first : (j : ℕ) → Waits t m j → (task_at t.tasks j).priority ≡ (task_at t.tasks k).priority → j ≢ k
      → ahead k (waiters_of t m) < ahead j (waiters_of t m)

-- the holder k after a 07 with waiters is that one, and it is ready
pub record HandedOver (t : Table) (s : List ℕ) (m : SubNo) (k : ℕ) : Type 0 where
  pub next : Next t m k
  pub ready : (task_at (step_of t s).table.tasks k).state ≡ Ready

-- ---- the holder of m after the record s: an accepted 06 of the free m makes it the caller; an accepted 07 of m, which
-- only its holder gets, the line's first, or nobody where the line was empty; all else leaves it as it was
pub record OneAtATime (t : Table) (s : List ℕ) (m : SubNo) : Type 0 where
  pub enters : Does t s (call.Enter m) → holder_of t m ≡ 0 → holder_of (step_of t s).table m ≡ (caller t).0
  pub leaves : Does t s (call.Exit m)
      → (holder_of t m ≡ (caller t).0) × (holder_of (step_of t s).table m ≡ active_of (waiters_of t m))
  pub stays : (Does t s (call.Enter m) → holder_of t m ≢ 0) → (Does t s (call.Exit m) → ⊥)
      → holder_of (step_of t s).table m ≡ holder_of t m

-- ---- who waits for m stands in its line once, and m has a holder
pub record Lined (t : Table) (m : SubNo) (k : ℕ) : Type 0 where
  pub once : count k (waiters_of t m) ≡ 1
  pub held : holder_of t m ≢ 0

-- ---- task 1 holds subprogram 4; tasks 2, 3 and 4 wait for it, in this order of arrival, and task 4 has the highest
-- priority. The record of a 07 of it
abbrev pub at : ℕ → State → Task
at p s = record { own = p; state = s; priority = p; argument = 0; start = never; end_waiter = nobody }

abbrev pub waiting : ℕ → Task
waiting p = at p (AwaitSub (record { 0 = 4 }))

abbrev pub sensor_tasks : List Task
sensor_tasks = at 7 Ready ∷ waiting 7 ∷ waiting 7 ∷ waiting 9 ∷ replicate 12 (dormant_at 0)

unfoldable pub sensor : Table
sensor = record {
  tasks = sensor_tasks;
  queue = pad most_tasks nobody (no 1 ∷ []);
  ready = 1;
  levels = levels_of (items sensor_tasks (no 1 ∷ []));
  rest = with_sub 4 (held_by (no 1) (no 4 ∷ no 2 ∷ no 3 ∷ [])) (blank_rest most_tasks 1);
}

abbrev pub out : List ℕ
out = 0x07 ∷ 4 ∷ []

pub record SubLaw : Type 0 where
  pub handed-over : (t : Table) (s : List ℕ) (m : SubNo) → WellFormed t → Bytes s → Does t s (call.Exit m)
      → 0 < (sub_at t.rest m.0).waiting → HandedOver t s m (holder_of (step_of t s).table m)
  pub one-at-a-time : (t : Table) (s : List ℕ) (m : SubNo) → WellFormed t → Bytes s → OneAtATime t s m
  -- after any history
  pub never-dormant : (t : Table) (ss : List (List ℕ)) (m : SubNo) → WellFormed t → AllBytes ss
      → holder_of (after t ss) m ≢ 0 → (task_at (after t ss).tasks (holder_of (after t ss) m)).state ≢ Dormant
  pub never-lost : (t : Table) (ss : List (List ℕ)) (m : SubNo) (k : ℕ) → WellFormed t → AllBytes ss
      → Waits (after t ss) m k → Lined (after t ss) m k
  -- the records of the two calls
  pub records : (m : ℕ)
      → (call_in (0x06 ∷ m ∷ []) ≡ call.Enter (record { 0 = m })) × (call_in (0x07 ∷ m ∷ []) ≡ call.Exit (record { 0 = m }))
  -- met: task 1 gets out, then task 4
  pub met : (holder_of (after sensor (out ∷ [])) (record { 0 = 4 }) ≡ 4) × (holder_of (after sensor (out ∷ out ∷ [])) (record { 0 = 4 }) ≡ 2)
