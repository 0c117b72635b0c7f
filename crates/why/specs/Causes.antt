-- Why a task is not running, as it is computed; and, apart from that, what it means that a cause holds of a task.
use Rattle.std.specs.Prelude.{ℕ, zero, suc, ◌-◌, ◌≤◌, ◌<◌, ◌≡◌, ◌↔◌, Bool, true, false, cond, List, Option, MatchOption, ◌+◌, eqb, leb, length, get_or}
use Rattle.std.specs.Int.Bits.{bit_and}
use Rattle.records.specs.declared.TaskNo.{TaskNo}
use Rattle.records.specs.declared.SubNo.{SubNo}
use Rattle.executive.specs.declared.State.{State}
use Rattle.executive.specs.declared.State.TheVariants as state
use Rattle.executive.specs.declared.Task.{Task}
use Rattle.executive.specs.declared.Request.{Request}
use Rattle.executive.specs.declared.Sub.{Sub}
use Rattle.executive.specs.declared.Table.{Table}
use Rattle.executive.specs.Numbers.{most_tasks, most_queued}
use Rattle.executive.specs.Lists.{next_of}
use Rattle.executive.specs.Queue.{ahead, active_of}
use Rattle.executive.specs.Places.{nobody, no_request, task_at}
use Rattle.executive.specs.Pool.{requests}
use Rattle.executive.specs.Table.{view}
use Rattle.executive.specs.Subprograms.{no_subprogram}
use Rattle.executive.specs.Promises.InWords.{Bit}
use Rattle.why.specs.declared.Cause.{Cause}
use Rattle.why.specs.declared.Cause.TheVariants as cause

-- what the code asks of a table: its lines lie within their arrays
pub record Sized (t : Table) : Type 0 where
  pub ready : t.ready ≤ most_tasks
  pub queued : t.rest.queued ≤ most_queued

-- the state of task k
abbrev pub state_at : Table → ℕ → State
state_at t k = (task_at t.tasks k).state

-- ---- the searches. How many of a queue stand ahead of task k
abbrev pub ahead_in : ℕ → List TaskNo → ℕ
ahead_in k q = next_of (λ (x : TaskNo). eqb k x.0) 0 q

-- whom a request names as the waiter for its start, or else for the end of the run that it begins
abbrev pub waiter_of : Bool → Request → ℕ
waiter_of at_start r = cond at_start r.start_waiter.0 r.end_waiter.0

-- the place, from 1, of the first request that names task k so; the first task whose run does. Past the last where none
unfoldable pub named_at : Bool → ℕ → List Request → ℕ
named_at at_start k rs = next_of (λ (r : Request). eqb k (waiter_of at_start r)) 1 rs

-- the same as an index; none where no request names it
abbrev pub NamedAt : Bool → ℕ → List Request → Option ℕ → Type 0
NamedAt at_start k rs r = MatchOption r (named_at at_start k rs ≡ length rs + 1) (λ i. (i < length rs) × (named_at at_start k rs ≡ i + 1))

unfoldable pub run_at : ℕ → List Task → ℕ
run_at k ts = next_of (λ (e : Task). eqb k e.end_waiter.0) 1 ts

-- the task of the request at a place, from 1
unfoldable pub target_at : ℕ → List Request → TaskNo
target_at zero rs = nobody
target_at (suc i) rs = (get_or rs i no_request).target

-- the holder of subprogram m
abbrev pub holder_at : ℕ → List Sub → TaskNo
holder_at m ss = (get_or ss m no_subprogram).holder

-- the flags of a mask that are not set
abbrev pub missing : ℕ → ℕ → ℕ
missing flags mask = mask - bit_and mask flags

-- ---- the cause
abbrev pub ready_cause : ℕ → Cause
ready_cause n = cond (eqb n 0) cause.Active (cause.Ready n)

abbrev pub start_cause : ℕ → List Request → Cause
start_cause k rs = cause.Start (named_at true k rs) (target_at (named_at true k rs) rs)

abbrev pub end_cause : ℕ → List Task → List Request → Cause
end_cause k ts rs =
    cond (leb (named_at false k rs) (length rs)) (cause.EndOfRequest (named_at false k rs) (target_at (named_at false k rs) rs))
    (cause.EndOfRun (record { 0 = run_at k ts }))

abbrev pub sub_cause : SubNo → List Sub → Cause
sub_cause m ss = cause.Subprogram m (holder_at m.0 ss)

abbrev pub cause_in : Table → ℕ → State → Cause
cause_in t k state.Dormant = cause.Dormant
cause_in t k state.Ready = ready_cause (ahead k (view t))
cause_in t k (state.Paused at) = cause.Paused at
cause_in t k (state.Due at) = cause.Due at
cause_in t k (state.Flags m mask) = cause.Flags m (missing t.rest.flags mask)
cause_in t k state.AwaitStart = start_cause k (requests t.rest)
cause_in t k state.AwaitEnd = end_cause k t.tasks (requests t.rest)
cause_in t k (state.AwaitSub m) = sub_cause m t.rest.subs
cause_in t k (state.AwaitMessage s) = cause.Message s

unfoldable pub cause_of : Table → ℕ → Cause
cause_of t k = cause_in t k (state_at t k)

-- ---- what it means, in the table's own terms
-- x has the flags of a mask that are not set, and no other bit
abbrev pub Missing : ℕ → ℕ → ℕ → Type 0
Missing flags mask x = (n : ℕ) → Bit n x ↔ (Bit n mask × (Bit n flags → ⊥))

-- the request at place p, from 1, of the queued ones names k by w, and j is its task
pub record NamedBy (w : Request → TaskNo) (rs : List Request) (k p : ℕ) (j : TaskNo) : Type 0 where
  pub from : 0 < p
  pub to : p ≤ length rs
  pub waiter : (w (get_or rs (p - 1) no_request)).0 ≡ k
  pub target : (get_or rs (p - 1) no_request).target ≡ j

-- the cause holds of task k
abbrev pub Holds : Table → ℕ → Cause → Type 0
Holds t k cause.Dormant = state_at t k ≡ state.Dormant
Holds t k cause.Active = (state_at t k ≡ state.Ready) × (active_of (view t) ≡ k)
Holds t k (cause.Ready n) = (state_at t k ≡ state.Ready) × ((ahead k (view t) ≡ n) × (0 < n))
Holds t k (cause.Paused at) = state_at t k ≡ state.Paused at
Holds t k (cause.Due at) = state_at t k ≡ state.Due at
Holds t k (cause.Flags m x) = (mask : ℕ) × ((state_at t k ≡ state.Flags m mask) × Missing t.rest.flags mask x)
Holds t k (cause.Start p j) = (state_at t k ≡ state.AwaitStart) × NamedBy (λ r. r.start_waiter) (requests t.rest) k p j
Holds t k (cause.EndOfRequest p j) = (state_at t k ≡ state.AwaitEnd) × NamedBy (λ r. r.end_waiter) (requests t.rest) k p j
Holds t k (cause.EndOfRun j) = (state_at t k ≡ state.AwaitEnd) × ((task_at t.tasks j.0).end_waiter.0 ≡ k)
Holds t k (cause.Subprogram m j) = (state_at t k ≡ state.AwaitSub m) × (holder_at m.0 t.rest.subs ≡ j)
Holds t k (cause.Message s) = state_at t k ≡ state.AwaitMessage s

-- the cause names task j
abbrev pub Names : Cause → ℕ → Type 0
Names cause.Dormant j = ⊥
Names cause.Active j = ⊥
Names (cause.Ready n) j = ⊥
Names (cause.Paused at) j = ⊥
Names (cause.Due at) j = ⊥
Names (cause.Flags m x) j = ⊥
Names (cause.Start p i) j = i.0 ≡ j
Names (cause.EndOfRequest p i) j = i.0 ≡ j
Names (cause.EndOfRun i) j = i.0 ≡ j
Names (cause.Subprogram m i) j = i.0 ≡ j
Names (cause.Message s) j = ⊥

-- some cause that names j holds of k
abbrev pub WaitsOn : Table → ℕ → ℕ → Type 0
WaitsOn t k j = (c : Cause) × (Names c j × Holds t k c)
