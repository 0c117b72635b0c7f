-- A well-formed table (docs/TABLE.md): a field for each of its rules, in their order. Rules on links and names are
-- counts.
use Rattle.std.specs.Prelude.{◌≡◌, Bool, true, false, not, cond, ◌↔◌, List, map, ℕ, ◌+◌, ◌≤◌, ◌<◌, ◌^◌, eqb, ltb, length, get_or}
use Rattle.records.specs.declared.TaskNo.{TaskNo}
use Rattle.executive.specs.declared.State.{State}
use Rattle.executive.specs.declared.State.TheVariants.{Dormant, Ready}
use Rattle.executive.specs.declared.Task.{Task}
use Rattle.executive.specs.declared.Request.{Request}
use Rattle.executive.specs.declared.Message.{Message}
use Rattle.executive.specs.declared.Rest.{Rest}
use Rattle.executive.specs.declared.Table.{Table}
use Rattle.executive.specs.Numbers.{most_tasks, most_queued, most_sent, flag_count, sub_count, last_sub, highest, most_granule, end_of_time, longest}
use Rattle.executive.specs.Lists.{one, pad, sum_of}
use Rattle.executive.specs.Queue.{count, Desc}
use Rattle.executive.specs.Places.{nobody, never, no_task, no_request, task_at}
use Rattle.executive.specs.Table.{line, items}
use Rattle.executive.specs.Pool.{requests}
use Rattle.executive.specs.Subprograms.{sub_at, line_of}
use Rattle.executive.specs.Messages.{no_message, no_mail, letters, fits, noted, mail_at}
use Rattle.executive.specs.States.{dormant, await_start, await_end, await_sub, await_message, time_of, mask_of, awaited_of, is_of, is, has_time, has_mask, wait_mode, is_ready, waits_for}
use Rattle.executive.specs.Flags.{is_set, met}

-- how many requests name task k: as their target, as the waiter for their start, as the waiter for the end of the
-- run that they begin
abbrev pub targets_of : ℕ → List Request → ℕ
targets_of k p = sum_of (λ (r : Request). one (eqb k r.target.0)) p

abbrev pub starts_of : ℕ → List Request → ℕ
starts_of k p = sum_of (λ (r : Request). one (eqb k r.start_waiter.0)) p

abbrev pub ends_of : ℕ → List Request → ℕ
ends_of k p = sum_of (λ (r : Request). one (eqb k r.end_waiter.0)) p

-- how many runs name task k as the waiter for their end
abbrev pub runs_of : ℕ → List Task → ℕ
runs_of k ts = sum_of (λ (e : Task). one (eqb k e.end_waiter.0)) ts

-- how many requests have a priority over 15; a task number over n; their own target for a waiter; two waiters; a
-- dormant target
abbrev pub over_priority : List Request → ℕ
over_priority p = sum_of (λ (r : Request). one (ltb highest r.priority)) p

abbrev pub out_of_range : ℕ → List Request → ℕ
out_of_range n p = sum_of (λ (r : Request). one (ltb n r.target.0) + one (ltb n r.start_waiter.0) + one (ltb n r.end_waiter.0)) p

abbrev pub waits_for_itself : List Request → ℕ
waits_for_itself p = sum_of (λ (r : Request). one (eqb r.target.0 r.start_waiter.0) + one (eqb r.target.0 r.end_waiter.0)) p

abbrev pub two_waiters : List Request → ℕ
two_waiters p = sum_of (λ (r : Request). cond (eqb r.start_waiter.0 0) 0 (one (not (eqb r.end_waiter.0 0)))) p

abbrev pub dormant_target : List Task → List Request → ℕ
dormant_target ts p = sum_of (λ (r : Request). is dormant (task_at ts r.target.0).state) p

-- how many waiting messages have a priority over 15, and how often they name as addressee or sender what is not 1 to n; how
-- many fit task k that receives from number s
abbrev pub no_task_of : ℕ → ℕ → ℕ
no_task_of n k = one (eqb k 0) + one (ltb n k)

abbrev pub letters_astray : ℕ → List Message → ℕ
letters_astray n ms = sum_of (λ (m : Message). one (ltb highest m.priority) + (no_task_of n m.to.0 + no_task_of n m.sender.0)) ms

abbrev pub fitting : ℕ → ℕ → List Message → ℕ
fitting k s ms = sum_of (λ (m : Message). one (fits k s m)) ms

-- ---- every number is in range: entries past the task count are zero, and no name is over the count
pub record Sizes (t : Table) : Type 0 where
  pub tasks : length t.tasks ≡ most_tasks
  pub queue : length t.queue ≡ most_tasks
  pub alarms : length t.rest.alarms ≡ flag_count
  pub pool : length t.rest.pool ≡ most_queued
  pub subs : length t.rest.subs ≡ sub_count
  pub lines : (m : ℕ) → length (sub_at t.rest m).line ≡ most_tasks
  pub messages : length t.rest.messages ≡ most_sent
  pub mail : length t.rest.mail ≡ most_tasks

pub record InRange (t : Table) : Type 0 where
  pub sizes : Sizes t
  pub count : (1 ≤ t.rest.count) × (t.rest.count ≤ most_tasks)
  pub granule : (1 ≤ t.rest.granule) × (t.rest.granule ≤ most_granule)
  pub clock : t.rest.clock.0 ≤ end_of_time
  pub ready : t.ready ≤ most_tasks
  pub queued : t.rest.queued ≤ most_queued
  pub own : (k : ℕ) → (task_at t.tasks k).own ≤ highest
  pub priority : (k : ℕ) → (task_at t.tasks k).priority ≤ highest
  pub waiter : (k : ℕ) → (task_at t.tasks k).end_waiter.0 ≤ t.rest.count
  pub beyond : (k : ℕ) → t.rest.count < k → task_at t.tasks k ≡ no_task
  pub priorities : over_priority (requests t.rest) ≡ 0
  pub names : out_of_range t.rest.count (requests t.rest) ≡ 0
  pub holders : (m : ℕ) → (sub_at t.rest m).holder.0 ≤ t.rest.count
  pub waiting : (m : ℕ) → (sub_at t.rest m).waiting ≤ most_tasks
  pub inside : (k : ℕ) → is_of await_sub (task_at t.tasks k).state ≡ true → awaited_of (task_at t.tasks k).state ≤ last_sub
  pub sent : t.rest.sent ≤ most_sent
  pub letters : letters_astray t.rest.count (letters t.rest) ≡ 0
  pub mail : (k : ℕ) → (mail_at t.rest.mail k).sender.0 ≤ t.rest.count
  pub senders : (k : ℕ) → is_of await_message (task_at t.tasks k).state ≡ true → awaited_of (task_at t.tasks k).state ≤ t.rest.count

-- ---- the line r holds exactly the tasks of ts whose state passes a test, once each, in descending priority
pub record Line (f : State → Bool) (ts : List Task) (r : List TaskNo) : Type 0 where
  pub exact : (k : ℕ) → count k (items ts r) ≡ one (f (task_at ts k).state)
  pub sorted : Desc (items ts r)

-- the ready queue holds exactly the ready tasks; its free places are zero
pub record Queue (t : Table) : Type 0 where
  pub exactly : Line is_ready t.tasks (line t)
  pub tidy : t.queue ≡ pad most_tasks nobody (line t)

-- ---- a stored time is after the clock c and at most the largest interval after it
abbrev pub Stored : ℕ → ℕ → Type 0
Stored c at = (c < at) × (at ≤ c + longest)

-- the time of a paused or due task is such a time
abbrev pub Timely : ℕ → State → Type 0
Timely c s = has_time s ≡ true → Stored c (time_of s).0

-- pause and due times; an alarm that is running
pub record Times (t : Table) : Type 0 where
  pub tasks : (k : ℕ) → Timely t.rest.clock.0 (task_at t.tasks k).state
  pub alarms : (i : ℕ) → 0 < (get_or t.rest.alarms i never).0 → Stored t.rest.clock.0 (get_or t.rest.alarms i never).0

-- ---- the mask of a task that waits for flags is nonzero and its condition is false, at the flags fs
abbrev pub Unmet : ℕ → State → Type 0
Unmet fs s = has_mask s ≡ true → (0 < mask_of s) × (met fs (wait_mode s) (mask_of s) ≡ false)

-- ---- each request or run that names a waiter names a different task in the matching state; each such state is
-- named once.
-- A request names one waiter at most
pub record Waiters (ts : List Task) (p : List Request) : Type 0 where
  pub starts : (k : ℕ) → 0 < k → starts_of k p ≡ is await_start (task_at ts k).state
  pub ends : (k : ℕ) → 0 < k → ends_of k p + runs_of k ts ≡ is await_end (task_at ts k).state
  pub others : waits_for_itself p ≡ 0
  pub apart : (k : ℕ) → 0 < k → eqb k (task_at ts k).end_waiter.0 ≡ false
  pub single : two_waiters p ≡ 0

-- ---- a dormant task's entry: zeros but for its own priority
pub record Zeros (e : Task) : Type 0 where
  pub priority : e.priority ≡ 0
  pub argument : e.argument ≡ 0
  pub start : e.start.0 ≡ 0
  pub waiter : e.end_waiter.0 ≡ 0

-- ---- no subprogram has a dormant holder, none has waiters while it is free, and its line holds exactly the tasks in
-- the state of waiting for it, once each, in descending priority, the places of equals read as their arrival
pub record Subprograms (ts : List Task) (r : Rest) : Type 0 where
  pub busy : (m : ℕ) → 0 < (sub_at r m).holder.0 → is dormant (task_at ts (sub_at r m).holder.0).state ≡ 0
  pub free : (m : ℕ) → (sub_at r m).holder.0 ≡ 0 → (sub_at r m).waiting ≡ 0
  pub lines : (m : ℕ) → m < sub_count → Line (waits_for m) ts (line_of (sub_at r m))
  pub tidy : (m : ℕ) → (sub_at r m).line ≡ pad most_tasks nobody (line_of (sub_at r m))

-- ---- no message waits that fits a task in the state of waiting for one; those that wait stand in descending priority, the
-- places of equals read as their arrival, free places last and zero
pub record Messages (ts : List Task) (r : Rest) : Type 0 where
  pub unmet : (k : ℕ) → is_of await_message (task_at ts k).state ≡ true → fitting k (awaited_of (task_at ts k).state) (letters r) ≡ 0
  pub sorted : Desc (map noted (letters r))
  pub tidy : r.messages ≡ pad most_sent no_message (letters r)

-- ---- some ready task has priority p
pub record Lit (t : Table) (p : ℕ) : Type 0 where
  pub task : ℕ
  pub ready : (task_at t.tasks task).state ≡ Ready
  pub priority : (task_at t.tasks task).priority ≡ p

-- the word is of 16 bits, and bit p is set exactly if some ready task has priority p
pub record Levels (t : Table) : Type 0 where
  pub word : t.levels < 2 ^ 16
  pub bits : (p : ℕ) → (is_set t.levels p ≡ true) ↔ Lit t p

-- ---- the rules, in their order
pub record WellFormed (t : Table) : Type 0 where
  -- every number is in range
  pub numbers : InRange t
  -- the ready queue holds exactly the ready tasks, once each, in descending priority
  pub queue : Queue t
  -- every stored pause, due and alarm time is after the clock and at most 22,032,000,000 ms after it (02, days)
  pub times : Times t
  -- every last scheduled start is at or before the clock
  pub started : (k : ℕ) → (task_at t.tasks k).start.0 ≤ t.rest.clock.0
  -- each wait mask is nonzero and its condition is false now
  pub masks : (k : ℕ) → Unmet t.rest.flags (task_at t.tasks k).state
  -- queued requests name busy tasks only
  pub busy : dormant_target t.tasks (requests t.rest) ≡ 0
  -- each request or run that names a waiter names a different task in the matching state, each such state is named once
  pub waiters : Waiters t.tasks (requests t.rest)
  -- a dormant task holds zeros but for its own priority
  pub dormant : (k : ℕ) → (task_at t.tasks k).state ≡ Dormant → Zeros (task_at t.tasks k)
  -- and no message stands in its entry (02); so none does past the task count, where every entry is a dormant one
  pub emptied : (k : ℕ) → (task_at t.tasks k).state ≡ Dormant → mail_at t.rest.mail k ≡ no_mail
  -- the pool's places, first to last, are read as the order of asking, its free places last and zero
  pub pool : t.rest.pool ≡ pad most_queued no_request (requests t.rest)
  -- no subprogram has a dormant holder or waiters while it is free; its line holds exactly those who wait for it (02)
  pub subprograms : Subprograms t.tasks t.rest
  -- no fitting message waits for a task that waits for one, and the messages stand in their order (02)
  pub messages : Messages t.tasks t.rest
  -- the word of the ready levels has bit p set exactly if some ready task has priority p (02)
  pub levels : Levels t
