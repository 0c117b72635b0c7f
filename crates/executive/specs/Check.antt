-- The check of a table as it is computed: a test for each rule of `WellFormed`. The queue has its own, and all others
-- look at the entries and the rest alone.
use Rattle.std.specs.Prelude.{ℕ, suc, ◌+◌, ◌-◌, ◌<◌, ◌≡◌, ◌↔◌, Bool, true, false, not, cond, List, [], ◌∷◌, eqb, leb, ltb, length, drop, take, get_or}
use Rattle.records.specs.declared.TaskNo.{TaskNo}
use Rattle.executive.specs.declared.Millis.{Millis}
use Rattle.executive.specs.declared.State.{State}
use Rattle.executive.specs.declared.Task.{Task}
use Rattle.executive.specs.declared.Request.{Request}
use Rattle.executive.specs.declared.Sub.{Sub}
use Rattle.executive.specs.declared.Message.{Message}
use Rattle.executive.specs.declared.Mail.{Mail}
use Rattle.executive.specs.declared.Rest.{Rest}
use Rattle.executive.specs.declared.Table.{Table}
use Rattle.executive.specs.Numbers.{most_tasks, most_queued, most_sent, flag_count, sub_count, last_sub, highest, most_granule, end_of_time, longest}
use Rattle.executive.specs.Lists.{one, sum_of, ◌and◌, up_to, all_of}
use Rattle.executive.specs.Pool.{requests}
use Rattle.executive.specs.Places.{task_at}
use Rattle.executive.specs.Table.{view, levels_of}
use Rattle.executive.specs.Messages.{letters, mail_at}
use Rattle.executive.specs.States.{await_start, await_end, await_sub, await_message, takes, time_of, mask_of, awaited_of, is_of, is, is_dormant, has_time, has_mask, wait_mode, is_ready, waits_for}
use Rattle.executive.specs.Flags.{met}
use Rattle.executive.specs.WellFormed.{WellFormed, starts_of, ends_of, runs_of}

-- ---- every number is in range, but how many are ready
-- a task's entry among n tasks; a request among them; a subprogram, with the size of its line, among them; a message
-- among them, and a mail
abbrev pub awaits_in_range : ℕ → State → Bool
awaits_in_range n s = cond (is_of await_sub s) (leb (awaited_of s) last_sub) (cond (is_of await_message s) (leb (awaited_of s) n) true)

-- the entry's own numbers, and whom its run's link names
abbrev pub numbers_in_range : ℕ → Task → Bool
numbers_in_range n e = leb e.own highest and leb e.priority highest and awaits_in_range n e.state

abbrev pub link_in_range : ℕ → Task → Bool
link_in_range n e = leb e.end_waiter.0 n

abbrev pub entry_in_range : ℕ → Task → Bool
entry_in_range n e = numbers_in_range n e and link_in_range n e

abbrev pub request_in_range : ℕ → Request → Bool
request_in_range n r = leb r.priority highest and leb r.target.0 n and leb r.start_waiter.0 n and leb r.end_waiter.0 n

abbrev pub sub_in_range : ℕ → Sub → Bool
sub_in_range n s = eqb (length s.line) most_tasks and leb s.holder.0 n and leb s.waiting most_tasks

abbrev pub message_in_range : ℕ → Message → Bool
message_in_range n m =
    ltb 0 m.to.0 and leb m.to.0 n and ltb 0 m.sender.0 and leb m.sender.0 n and leb m.priority highest

abbrev pub mail_in_range : ℕ → Mail → Bool
mail_in_range n x = leb x.sender.0 n

-- an entry of zeros, but for its own priority and its state; an entry of zeros
abbrev pub is_zero : Task → Bool
is_zero e = eqb e.priority 0 and eqb e.argument 0 and eqb e.start.0 0 and eqb e.end_waiter.0 0

abbrev pub is_blank : Task → Bool
is_blank e = is_dormant e.state and eqb e.own 0 and is_zero e

abbrev pub sizes_right : List Task → Rest → Bool
sizes_right ts r =
    eqb (length ts) most_tasks
    and eqb (length r.alarms) flag_count
    and eqb (length r.pool) most_queued
    and eqb (length r.subs) sub_count
    and eqb (length r.messages) most_sent
    and eqb (length r.mail) most_tasks

-- the task count, the granule, the clock, how many requests are queued
abbrev pub in_bounds : ℕ → ℕ → Millis → ℕ → Bool
in_bounds n g c q = leb 1 n and leb n most_tasks and leb 1 g and leb g most_granule and leb c.0 end_of_time and leb q most_queued

unfoldable pub numbers_right : List Task → Rest → Bool
numbers_right ts r =
    sizes_right ts r
    and in_bounds r.count r.granule r.clock r.queued
    and all_of (entry_in_range r.count) ts
    and all_of is_blank (drop r.count ts)
    and all_of (request_in_range r.count) (requests r)
    and all_of (sub_in_range r.count) r.subs
    and leb r.sent most_sent
    and all_of (message_in_range r.count) (letters r)
    and all_of (mail_in_range r.count) r.mail

-- ---- the ready queue
abbrev pub is_task : ℕ → TaskNo → Bool
is_task n k = ltb 0 k.0 and leb k.0 n

abbrev pub is_nobody : TaskNo → Bool
is_nobody k = eqb k.0 0

-- each names one of n tasks, none has a priority over p, and they descend
unfoldable pub falls : List Task → ℕ → ℕ → List TaskNo → Bool
falls ts n p [] = true
falls ts n p (k ∷ ks) = cond (is_task n k) (cond (leb (task_at ts k.0).priority p) (falls ts n (task_at ts k.0).priority ks) false) false

-- how often the number k stands in a line: once if its state passes the line's test, else never
abbrev pub stands_in : ℕ → List TaskNo → ℕ
stands_in k xs = sum_of (λ (x : TaskNo). one (eqb k x.0)) xs

unfoldable pub exact_at : (State → Bool) → List Task → List TaskNo → ℕ → Bool
exact_at f ts xs k = eqb (stands_in k xs) (one (f (task_at ts k).state))

-- the line q, of which the first r places are taken, of those of n tasks whose state passes a test: its own tests,
-- which look at the entries besides
abbrev pub line_right : (State → Bool) → List Task → ℕ → ℕ → List TaskNo → Bool
line_right f ts n r q =
    leb n most_tasks
    and leb r most_tasks
    and falls ts n highest (take r q)
    and up_to (exact_at f ts (take r q)) n
    and all_of is_nobody (drop r q)

abbrev pub order_right : Table → Bool
order_right t = eqb (length t.queue) most_tasks and line_right is_ready t.tasks t.rest.count t.ready t.queue

-- the word of the ready levels is the queue's
abbrev pub levels_right : Table → Bool
levels_right t = eqb t.levels (levels_of (view t))

unfoldable pub queue_right : Table → Bool
queue_right t = order_right t and levels_right t

-- ---- stored times, at the clock c
abbrev pub is_stored : ℕ → ℕ → Bool
is_stored c at = ltb c at and leb (at - c) longest

abbrev pub is_timely : ℕ → State → Bool
is_timely c s = cond (has_time s) (is_stored c (time_of s).0) true

abbrev pub alarm_right : ℕ → Millis → Bool
alarm_right c a = cond (eqb a.0 0) true (is_stored c a.0)

abbrev pub task_timely : ℕ → Task → Bool
task_timely c e = is_timely c e.state

unfoldable pub times_right : List Task → Rest → Bool
times_right ts r = all_of (task_timely r.clock.0) ts and all_of (alarm_right r.clock.0) r.alarms

-- ---- last scheduled starts
abbrev pub is_started : ℕ → Task → Bool
is_started c e = leb e.start.0 c

unfoldable pub started_right : List Task → Rest → Bool
started_right ts r = all_of (is_started r.clock.0) ts

-- ---- wait masks, at the flags fs
abbrev pub is_unmet : ℕ → State → Bool
is_unmet fs s = cond (has_mask s) (ltb 0 (mask_of s) and not (met fs (wait_mode s) (mask_of s))) true

abbrev pub task_unmet : ℕ → Task → Bool
task_unmet fs e = is_unmet fs e.state

unfoldable pub masks_right : List Task → Rest → Bool
masks_right ts r = all_of (task_unmet r.flags) ts

-- ---- queued requests name busy tasks only
abbrev pub target_busy : List Task → Request → Bool
target_busy ts r = not (is_dormant (task_at ts r.target.0).state)

unfoldable pub busy_right : List Task → Rest → Bool
busy_right ts r = all_of (target_busy ts) (requests r)

-- ---- waiters: what is said of number k; what is said of one request
unfoldable pub waiters_at : List Task → List Request → ℕ → Bool
waiters_at ts p k =
    eqb (starts_of k p) (is await_start (task_at ts k).state)
    and eqb (ends_of k p + runs_of k ts) (is await_end (task_at ts k).state)
    and not (eqb k (task_at ts k).end_waiter.0)

abbrev pub names_others : Request → Bool
names_others r =
    not (eqb r.target.0 r.start_waiter.0)
    and not (eqb r.target.0 r.end_waiter.0)
    and cond (eqb r.start_waiter.0 0) true (eqb r.end_waiter.0 0)

unfoldable pub waiters_right : List Task → Rest → Bool
waiters_right ts r = up_to (waiters_at ts (requests r)) r.count and all_of names_others (requests r)

-- ---- a dormant task's entry
abbrev pub dormant_entry_right : Task → Bool
dormant_entry_right e = cond (is_dormant e.state) (is_zero e) true

-- no message stands in the entry of task k where it is dormant
abbrev pub is_no_mail : Mail → Bool
is_no_mail x = eqb x.sender.0 0 and eqb x.text.0 0

abbrev pub is_emptied : State → Mail → Bool
is_emptied s x = cond (is_dormant s) (is_no_mail x) true

unfoldable pub emptied_at : List Task → List Mail → ℕ → Bool
emptied_at ts ml k = is_emptied (task_at ts k).state (mail_at ml k)

unfoldable pub dormant_right : List Task → Rest → Bool
dormant_right ts r = all_of dormant_entry_right ts and up_to (emptied_at ts r.mail) most_tasks

-- ---- the pool's free places
abbrev pub is_free : Request → Bool
is_free r =
    eqb r.target.0 0
    and eqb r.priority 0
    and eqb r.argument 0
    and eqb r.start_waiter.0 0
    and eqb r.end_waiter.0 0

unfoldable pub pool_right : Rest → Bool
pool_right r = all_of is_free (drop r.queued r.pool)

-- ---- the subprograms: a holder is busy; a free one has no waiters; the line is that of those who wait for it. Those of n
-- tasks, for the subprograms from number m on
abbrev pub holder_right : List Task → Sub → Bool
holder_right ts s = cond (eqb s.holder.0 0) (eqb s.waiting 0) (not (is_dormant (task_at ts s.holder.0).state))

abbrev pub sub_right : List Task → ℕ → ℕ → Sub → Bool
sub_right ts n m s = holder_right ts s and line_right (waits_for m) ts n s.waiting s.line

unfoldable pub subs_from : List Task → ℕ → ℕ → List Sub → Bool
subs_from ts n m [] = true
subs_from ts n m (s ∷ ss) = cond (sub_right ts n m s) (subs_from ts n (suc m) ss) false

unfoldable pub subs_right : List Task → Rest → Bool
subs_right ts r = subs_from ts r.count 0 r.subs

-- ---- the messages: none is one that its addressee takes; none has a priority over p, and they descend; the free places
abbrev pub is_untaken : List Task → Message → Bool
is_untaken ts m = not (takes m.sender.0 (task_at ts m.to.0).state)

unfoldable pub letters_fall : ℕ → List Message → Bool
letters_fall p [] = true
letters_fall p (m ∷ ms) = cond (leb m.priority p) (letters_fall m.priority ms) false

abbrev pub is_no_message : Message → Bool
is_no_message m = eqb m.to.0 0 and eqb m.sender.0 0 and eqb m.priority 0 and eqb m.text.0 0

unfoldable pub messages_right : List Task → Rest → Bool
messages_right ts r =
    all_of (is_untaken ts) (letters r) and letters_fall highest (letters r) and all_of is_no_message (drop r.sent r.messages)

-- ---- the check: every rule but the queue's, in their order, which the entries and the rest keep or break whatever the
-- queue is; and the queue's own
unfoldable pub all_but_queue : List Task → Rest → Bool
all_but_queue ts r =
    numbers_right ts r
    and times_right ts r
    and started_right ts r
    and masks_right ts r
    and busy_right ts r
    and waiters_right ts r
    and dormant_right ts r
    and pool_right r
    and subs_right ts r
    and messages_right ts r

unfoldable pub is_well_formed : Table → Bool
is_well_formed t = queue_right t and all_but_queue t.tasks t.rest

-- what the check answers: number 0 for a well-formed table, number 1 for any other
pub record Checked (t : Table) (r : ℕ) : Type 0 where
  pub right : (r ≡ 0) ↔ WellFormed t
  pub wrong : (r ≡ 1) ↔ (WellFormed t → ⊥)

-- the check's test and the rules are one, and no table has two answers
pub record Decided : Type 0 where
  pub iff : (t : Table) → (is_well_formed t ≡ true) ↔ WellFormed t
  pub once : (t : Table) (r s : ℕ) → Checked t r → Checked t s → r ≡ s

-- ---- the rules as the code takes them, fewer passes and another order (`Passes` says that it is the same test)
-- all rules on one entry of n tasks, at the clock c with the flags fs; all rules on one request, and those that do
-- not look at its target's entry
abbrev pub entry_right : ℕ → ℕ → ℕ → Task → Bool
entry_right n c fs e = entry_in_range n e and task_timely c e and is_started c e and task_unmet fs e and dormant_entry_right e

abbrev pub request_fits : ℕ → Request → Bool
request_fits n r = request_in_range n r and names_others r

abbrev pub request_right : List Task → ℕ → Request → Bool
request_right ts n r = request_in_range n r and names_others r and target_busy ts r

-- a task that waits for no start and no end, and for whose end nobody waits; a request that names no waiter
abbrev pub is_quiet : Task → Bool
is_quiet e = not (is_of await_start e.state) and not (is_of await_end e.state) and eqb e.end_waiter.0 0

abbrev pub is_lone : Request → Bool
is_lone r = eqb r.start_waiter.0 0 and eqb r.end_waiter.0 0

-- the pool p of k requests
abbrev pub asked_right : List Task → ℕ → ℕ → List Request → Bool
asked_right ts n k p = all_of (request_right ts n) (take k p) and up_to (waiters_at ts (take k p)) n and all_of is_free (drop k p)

-- a free subprogram, for which nobody waits: zeros; a state of waiting for one of them; a task that waits for none
abbrev pub is_free_sub : Sub → Bool
is_free_sub s = eqb (length s.line) most_tasks and eqb s.holder.0 0 and eqb s.waiting 0 and all_of is_nobody s.line

abbrev pub awaits_any : State → Bool
awaits_any s = is_of await_sub s and leb (awaited_of s) last_sub

unfoldable pub waits_for_none : List Task → ℕ → Bool
waits_for_none ts k = not (awaits_any (task_at ts k).state)

-- the subprograms ss: their numbers and their rule, of n tasks
abbrev pub held_right : List Task → ℕ → List Sub → Bool
held_right ts n ss = all_of (sub_in_range n) ss and subs_from ts n 0 ss

-- the messages ms of which k wait, in one pass: each in range, none over priority p, none that its addressee takes; the free
-- places
unfoldable pub letters_right : List Task → ℕ → ℕ → List Message → Bool
letters_right ts n p [] = true
letters_right ts n p (m ∷ ms) =
    cond (message_in_range n m) (cond (leb m.priority p) (cond (is_untaken ts m) (letters_right ts n m.priority ms) false) false) false

abbrev pub sent_right : List Task → ℕ → ℕ → List Message → Bool
sent_right ts n k ms = leb k most_sent and letters_right ts n highest (take k ms) and all_of is_no_message (drop k ms)

-- the mail of task k among n tasks, in range and none where it is dormant; of all
unfoldable pub mail_right_at : List Task → ℕ → List Mail → ℕ → Bool
mail_right_at ts n ml k = mail_in_range n (mail_at ml k) and emptied_at ts ml k

abbrev pub mail_right : List Task → ℕ → List Mail → Bool
mail_right ts n ml = up_to (mail_right_at ts n ml) most_tasks

unfoldable pub in_passes : List Task → Rest → Bool
in_passes ts r =
    in_bounds r.count r.granule r.clock r.queued
    and all_of (entry_right r.count r.clock.0 r.flags) ts
    and all_of is_blank (drop r.count ts)
    and all_of (alarm_right r.clock.0) r.alarms
    and asked_right ts r.count r.queued r.pool
    and held_right ts r.count r.subs
    and sent_right ts r.count r.sent r.messages
    and mail_right ts r.count r.mail

-- ---- a tally of numbers: how often k stands in a line is told at place k - 1
pub record Tallies (c : List ℕ) (xs : List TaskNo) : Type 0 where
  pub sized : length c ≡ 17
  pub counts : (j : ℕ) → j < most_tasks → get_or c j 0 ≡ stands_in (suc j) xs
