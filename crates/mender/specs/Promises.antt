-- What is promised of the mending of a table.
use Rattle.std.specs.Prelude.{ℕ, suc, ◌≤◌, ◌<◌, ◌≡◌, ◌↔◌, ◌≢◌, ◌⊎◌, Bool, true, cond, ◌||◌, List, [], ◌∷◌, map, eqb, leb, ltb, get_or, take}
use Rattle.executive.specs.declared.State.{State}
use Rattle.executive.specs.declared.State.TheVariants.{Dormant, Ready}
use Rattle.executive.specs.declared.Request.{Request}
use Rattle.executive.specs.declared.Message.{Message}
use Rattle.executive.specs.declared.Table.{Table}
use Rattle.executive.specs.Numbers.{most_tasks, highest, end_of_time}
use Rattle.executive.specs.Lists.{one, pad, sum_of, ◌and◌}
use Rattle.executive.specs.Places.{never, task_at}
use Rattle.executive.specs.States.{await_sub, is_of}
use Rattle.executive.specs.Entries.{with_state}
use Rattle.executive.specs.Pool.{requests}
use Rattle.executive.specs.Messages.{no_mail, letters, mail_at}
use Rattle.executive.specs.Letters.{all_that}
use Rattle.executive.specs.WellFormed.{Zeros, WellFormed}
use Rattle.executive.specs.Check.{message_in_range, alarm_right}
use Rattle.executive.specs.Promises.Demands.{AllBytes}
use Rattle.executive.specs.Promises.EveryStart.{Asked, Agrees, Account}
use Rattle.executive.specs.Promises.MailLaw.{LetterAccount}
use Rattle.mender.specs.declared.Note.{Note}
use Rattle.mender.specs.declared.Mended.{Mended}
use Rattle.mender.specs.Rules.{range_rule, link_rule, lost_link, Breaks, Whole}
use Rattle.mender.specs.Passes.{keeps_request, unlinked, awaits_link}
use Rattle.mender.specs.Rounds.{round, rounds_of}
use Rattle.mender.specs.Listing.{no_note}
use Rattle.mender.specs.Mending.{answered, mendable, mend_of, Typed, Mends}

-- ---- the numbers: 17 where the clock, the granule or the task count is out of range
pub data OutOfRange (t : Table) : Type 0 where
  late : end_of_time < t.rest.clock.0 → OutOfRange t
  granuleless : t.rest.granule ≡ 0 → OutOfRange t
  taskless : t.rest.count ≡ 0 → OutOfRange t
  crowded : most_tasks < t.rest.count → OutOfRange t

pub record Seventeen (t : Table) : Type 0 where
  pub exactly : ((mend_of t).number ≡ 17) ↔ OutOfRange t
  pub otherwise : (OutOfRange t → ⊥) → (mend_of t).number ≡ 0
  pub nothing : OutOfRange t → mend_of t ≡ answered 17 t []

-- ---- the list: its notes, how often task k stands in it; the entry of task k, its fields and its mail, is the same in both
-- tables; task numbers ascend
abbrev pub notes_in : Mended → List Note
notes_in r = take r.noted r.list

abbrev pub times_noted : ℕ → List Note → ℕ
times_noted k ns = sum_of (λ (x : Note). one (eqb k x.task.0)) ns

pub record Same (t u : Table) (k : ℕ) : Type 0 where
  pub entry : task_at u.tasks k ≡ task_at t.tasks k
  pub mail : mail_at u.rest.mail k ≡ mail_at t.rest.mail k

abbrev pub Ascends : ℕ → List Note → Type 0
Ascends k [] = Unit {0}
Ascends k (x ∷ xs) = (k < x.task.0) × (x.task.0 ≤ most_tasks) × Ascends x.task.0 xs

pub record Listed (t : Table) (r : Mended) : Type 0 where
  pub differs : (k : ℕ) → 0 < k → k ≤ most_tasks → (Same t r.table k → ⊥) → times_noted k (notes_in r) ≡ 1
  pub same : (k : ℕ) → 0 < k → k ≤ most_tasks → Same t r.table k → times_noted k (notes_in r) ≡ 0
  pub ascends : Ascends 0 (notes_in r)
  pub tidy : r.list ≡ pad most_tasks no_note (notes_in r)

-- ---- a note's rule r for task k, whose entry was in t and is in u: an own rule, the first that the entry broke, and it is
-- dormant now, without mail: its own priority stays, but is 0 where it was over 15 or past the task count, and all else is
-- zero; a link that was cleared; a waiter whose link was lost, or whose subprogram is free
pub record Slept (t u : Table) (k r : ℕ) : Type 0 where
  pub breaks : Breaks t k r
  pub first : (q : ℕ) → q < r → Breaks t k q → ⊥
  pub dormant : (task_at u.tasks k).state ≡ Dormant
  pub own : (task_at u.tasks k).own ≡ cond (leb k t.rest.count and leb (task_at t.tasks k).own highest) (task_at t.tasks k).own 0
  pub zeros : Zeros (task_at u.tasks k)
  pub mail : mail_at u.rest.mail k ≡ no_mail

pub record Unlinked (t u : Table) (k r : ℕ) : Type 0 where
  pub whole : Whole t k
  pub linked : (task_at t.tasks k).end_waiter.0 ≢ 0
  pub rule : r ≡ cond (ltb t.rest.count (task_at t.tasks k).end_waiter.0) range_rule link_rule
  pub entry : (task_at u.tasks k ≡ unlinked (task_at t.tasks k)) ⊎ (task_at u.tasks k ≡ with_state Ready (unlinked (task_at t.tasks k)))
  pub mail : mail_at u.rest.mail k ≡ mail_at t.rest.mail k

abbrev pub waits_for_other : State → Bool
waits_for_other s = awaits_link s || is_of await_sub s

pub record Lost (t u : Table) (k r : ℕ) : Type 0 where
  pub whole : Whole t k
  pub waits : waits_for_other (task_at t.tasks k).state ≡ true
  pub rule : r ≡ lost_link
  pub entry : task_at u.tasks k ≡ with_state Ready (task_at t.tasks k)
  pub mail : mail_at u.rest.mail k ≡ mail_at t.rest.mail k

abbrev pub RuleRight : Table → Table → Note → Type 0
RuleRight t u x = Slept t u x.task.0 x.rule ⊎ (Unlinked t u x.task.0 x.rule ⊎ Lost t u x.task.0 x.rule)

-- ---- what goes on: of an entry that breaks no own rule all but its link and its wait for another
pub record GoesOn (t u : Table) (k : ℕ) : Type 0 where
  pub own : (task_at u.tasks k).own ≡ (task_at t.tasks k).own
  pub priority : (task_at u.tasks k).priority ≡ (task_at t.tasks k).priority
  pub argument : (task_at u.tasks k).argument ≡ (task_at t.tasks k).argument
  pub start : (task_at u.tasks k).start ≡ (task_at t.tasks k).start
  pub state : ((task_at u.tasks k).state ≡ (task_at t.tasks k).state) ⊎ (((task_at u.tasks k).state ≡ Ready) × (waits_for_other (task_at t.tasks k).state ≡ true))
  pub mail : mail_at u.rest.mail k ≡ mail_at t.rest.mail k

-- the requests in range for a task that is busy in u, in the order of their places, but for their waiters; of each priority
-- the messages in range, in the order of their places
pub record Bare : Type 0 where
  pub target : ℕ
  pub priority : ℕ
  pub argument : ℕ

abbrev pub bare : Request → Bare
bare q = record { target = q.target.0; priority = q.priority; argument = q.argument }

abbrev pub of_level : ℕ → List Message → List Message
of_level p ms = all_that (λ (m : Message). eqb p m.priority) ms

pub record Kept (t u : Table) : Type 0 where
  pub asked : map bare (requests u.rest) ≡ map bare (all_that (keeps_request t.rest.count u.tasks) t.rest.pool)
  pub sent : (p : ℕ) → of_level p (letters u.rest) ≡ of_level p (all_that (message_in_range t.rest.count) t.rest.messages)

-- what no mending touches
pub record Frame (t u : Table) : Type 0 where
  pub count : u.rest.count ≡ t.rest.count
  pub granule : u.rest.granule ≡ t.rest.granule
  pub clock : u.rest.clock ≡ t.rest.clock
  pub flags : u.rest.flags ≡ t.rest.flags
  pub alarms : (i : ℕ) → i < 32 → alarm_right t.rest.clock.0 (get_or t.rest.alarms i never) ≡ true
      → get_or u.rest.alarms i never ≡ get_or t.rest.alarms i never

-- the accounts of starts and of messages begin anew at the table u, with what waits there
pub record BeginsAnew (u : Table) : Type 0 where
  pub starts : (w : List Asked) (ss : List (List ℕ)) → Agrees w (requests u.rest) → AllBytes ss → Account w u ss
  pub letters : (ss : List (List ℕ)) → AllBytes ss → LetterAccount u ss

pub record Promises : Type 0 where
  -- a well-formed table stays as it is, with an empty list
  pub sound-stays : (t : Table) → WellFormed t → mend_of t ≡ answered 0 t []
  -- 17 exactly where the clock, the granule or the task count is out of range, else 0
  pub seventeen : (t : Table) → Typed t → Seventeen t
  -- what is mended is well formed, and mending it again changes nothing
  pub mended : (t : Table) → Typed t → (mend_of t).number ≡ 0 → WellFormed (mend_of t).table
  pub again : (t : Table) → Typed t → (mend_of t).number ≡ 0 → mend_of (mend_of t).table ≡ answered 0 (mend_of t).table []
  -- each entry that differs is listed once, and no other; each rule is right
  pub listed : (t : Table) → Typed t → Listed t (mend_of t)
  pub rule-right : (t : Table) → Typed t → (i : ℕ) → i < (mend_of t).noted → RuleRight t (mend_of t).table (get_or (mend_of t).list i no_note)
  -- the sound tasks go on, and so do the requests and the messages in range
  pub goes_on : (t : Table) → Typed t → (k : ℕ) → 0 < k → k ≤ most_tasks → Whole t k → GoesOn t (mend_of t).table k
  pub kept : (t : Table) → Typed t → (mend_of t).number ≡ 0 → Kept t (mend_of t).table
  pub frame : (t : Table) → Frame t (mend_of t).table
  -- a second round has nothing left to do: so it is the same how many there are
  pub settles : (t : Table) → Typed t → mendable t ≡ true → round (round t) ≡ round t
  pub rounds : (t : Table) → Typed t → mendable t ≡ true → (n : ℕ) → rounds_of (suc n) t ≡ round t
  pub begins_anew : (t : Table) → Typed t → (mend_of t).number ≡ 0 → BeginsAnew (mend_of t).table
  -- any two answers that the contract allows are equal
  pub determined : (t : Table) (x y : Mended) → Mends t x → Mends t y → x ≡ y
