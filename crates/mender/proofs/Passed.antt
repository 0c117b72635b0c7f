-- What the passes leave, a record for each of them, and all of it together: a clean table.
use Prim.Native.Nat.{ℕ, ◌+◌, ◌≤◌, ◌<◌}
use mathlib.Core.Path.{◌≡◌}
use mathlib.Core.Bool.{Bool, true, false, ◌||◌}
use mathlib.Core.List.{List}
use lib.Dec.{eqb}
use lib.ListN.{length, get_or}
use Rattle.executive.specs.declared.State.TheVariants.{Dormant}
use Rattle.executive.specs.declared.Task.{Task}
use Rattle.executive.specs.declared.Request.{Request}
use Rattle.executive.specs.declared.Mail.{Mail}
use Rattle.executive.specs.declared.Rest.{Rest}
use Rattle.executive.specs.declared.Table.{Table}
use Rattle.executive.specs.Numbers.{most_tasks, flag_count, sub_count, last_sub}
use Rattle.executive.specs.Lists.{one, all_of, ◌and◌}
use Rattle.executive.specs.Places.{never, task_at}
use Rattle.executive.specs.States.{await_start, await_end, await_sub, await_message, awaited_of, is_of}
use Rattle.executive.specs.Pool.{PoolInOrder, requests}
use Rattle.executive.specs.Subprograms.{sub_at}
use Rattle.executive.specs.Messages.{LettersInOrder, letters, no_mail}
use Rattle.executive.specs.WellFormed.{starts_of, ends_of, runs_of, fitting, Waiters}
use Rattle.executive.specs.Check.{is_nobody, message_in_range, names_others, alarm_right}
use Rattle.executive.proofs.Assured.{EntryOk}
use Rattle.mender.specs.Rules.{own_rule_at}
use Rattle.mender.specs.Passes.{keeps_request, named_at, is_holder}

-- ---- what it says of the entry e with the mail x of task k, beside the rest r, that it breaks none of its own rules
pub record OwnRight (r : Rest) (k : ℕ) (e : Task) (x : Mail) : Type 0 where
  pub entry : EntryOk r.clock.0 r.flags r.count k e
  pub inside : is_of await_sub e.state ≡ true → awaited_of e.state ≤ last_sub
  pub senders : is_of await_message e.state ≡ true → awaited_of e.state ≤ r.count
  pub mail : x.sender.0 ≤ r.count
  pub emptied : e.state ≡ Dormant → x ≡ no_mail
  pub unmet : is_of await_message e.state ≡ true → fitting k (awaited_of e.state) r.messages ≡ 0

-- ---- own entries: none breaks an own rule, number 0 and those past the last included, which are blank
pub record Owned (t : Table) : Type 0 where
  pub tasks : length t.tasks ≡ most_tasks
  pub mail : length t.rest.mail ≡ most_tasks
  pub own : (k : ℕ) → own_rule_at t k ≡ 0

-- ---- messages and requests: those that wait are in range, requests for busy tasks only, and free places are blank
pub record Queued (t : Table) : Type 0 where
  pub pool : PoolInOrder t.rest
  pub asked : all_of (keeps_request t.rest.count t.tasks) (requests t.rest) ≡ true
  pub messages : LettersInOrder t.rest
  pub sent : all_of (message_in_range t.rest.count) (letters t.rest) ≡ true

-- ---- links, where bs has those who are named: each of them once, by a link of the kind that its state waits for
pub record Linked (bs : List Bool) (ts : List Task) (p : List Request) : Type 0 where
  pub named : length bs ≡ most_tasks
  pub starts : (w : ℕ) → 0 < w → starts_of w p ≡ one (named_at bs w and is_of await_start (task_at ts w).state)
  pub ends : (w : ℕ) → 0 < w → ends_of w p + runs_of w ts ≡ one (named_at bs w and is_of await_end (task_at ts w).state)
  pub others : all_of names_others p ≡ true
  pub apart : (k : ℕ) → 0 < k → eqb k (task_at ts k).end_waiter.0 ≡ false

-- ---- subprograms and alarms: a holder is busy, an alarm in range
pub record Held (t : Table) : Type 0 where
  pub subs : length t.rest.subs ≡ sub_count
  pub holders : (m : ℕ) → is_nobody (sub_at t.rest m).holder || is_holder t.rest.count t.tasks (sub_at t.rest m).holder ≡ true
  pub sized : length t.rest.alarms ≡ flag_count
  pub alarms : (i : ℕ) → alarm_right t.rest.clock.0 (get_or t.rest.alarms i never) ≡ true

-- ---- all passes: besides, who waits is named, or waits for a subprogram that has a holder
pub record Clean (t : Table) : Type 0 where
  pub owned : Owned t
  pub queued : Queued t
  pub held : Held t
  pub links : Waiters t.tasks (requests t.rest)
  pub waits : (k : ℕ) → is_of await_sub (task_at t.tasks k).state ≡ true → is_nobody (sub_at t.rest (awaited_of (task_at t.tasks k).state)).holder ≡ false
