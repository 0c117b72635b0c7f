-- What a step decides, as a small value: who leaves and how, who enters in which order and how, what becomes of the
-- rest; and what such a value means at a table. Each kind's deed is its plan as a value, from the parts of the table
-- that it looks at.
use Rattle.std.specs.Prelude.{ℕ, suc, ◌+◌, ◌≤◌, ◌<◌, ◌≡◌, Bool, true, false, cond, List, [], ◌∷◌, ◌++◌, leb, ltb, eqb, length, get_or, take, drop}
use Rattle.records.specs.declared.TaskNo.{TaskNo}
use Rattle.records.specs.declared.FlagNo.{FlagNo}
use Rattle.records.specs.declared.SubNo.{SubNo}
use Rattle.records.specs.declared.Text.{Text}
use Rattle.executive.specs.declared.Millis.{Millis}
use Rattle.executive.specs.declared.AwaitedMoment.{AwaitedMoment}
use Rattle.executive.specs.declared.AwaitedMoment.TheVariants.{ForNothing, ForStart, ForEnd}
use Rattle.executive.specs.declared.State.{State}
use Rattle.executive.specs.declared.State.TheVariants as state
use Rattle.executive.specs.declared.Task.{Task}
use Rattle.executive.specs.declared.Request.{Request}
use Rattle.executive.specs.declared.Sub.{Sub}
use Rattle.executive.specs.declared.Message.{Message}
use Rattle.executive.specs.declared.Rest.{Rest}
use Rattle.executive.specs.declared.Table.{Table}
use Rattle.executive.specs.declared.Marks.{Marks}
use Rattle.executive.specs.declared.decisions.Leave.{Leave}
use Rattle.executive.specs.declared.decisions.Leave.TheVariants as leave
use Rattle.executive.specs.declared.decisions.How.{How}
use Rattle.executive.specs.declared.decisions.How.TheVariants.{Woken, Risen, Begun}
use Rattle.executive.specs.declared.decisions.Entrant.{Entrant}
use Rattle.executive.specs.declared.decisions.Entrants.{Entrants}
use Rattle.executive.specs.declared.decisions.Change.{Change}
use Rattle.executive.specs.declared.decisions.Change.TheVariants as change
use Rattle.executive.specs.declared.decisions.Deed.{Deed}
use Rattle.executive.specs.declared.decisions.Decision.{Decision}
use Rattle.executive.specs.Numbers.{most_tasks, most_queued, most_sent, flag_count, sub_count, end_of_time}
use Rattle.executive.specs.Lists.{pad, next_of}
use Rattle.executive.specs.Places.{nobody, never, no_request, task_at}
use Rattle.executive.specs.Pool.{requests, with_requests, place_of, removed}
use Rattle.executive.specs.Table.{ArraysInOrder, line, view, levels_of, head_of, Out, stays, leaves, Join, Plan, depart, FindsRoom}
use Rattle.executive.specs.Subprograms.{sub_at, line_of, LineInOrder, is_held, enters_it, joins_line, handed_on, with_sub}
use Rattle.executive.specs.Messages.{no_text, no_mail, letters, LettersInOrder, with_letters, first_fit, put_in_at, with_mail}
use Rattle.executive.specs.Entries.{with_state, as_dormant, begun, due_at, risen}
use Rattle.executive.specs.Clock.{interval, aim_at, with_alarm, is_due, advanced}
use Rattle.executive.specs.Flags.{with_flags, flag_set, flag_reset, met, mode_of}
use Rattle.executive.specs.WellFormed.{Line, Unmet}
use Rattle.executive.specs.Plans.{priority_of, wait_of, argument_of, at_once, asks, holds, passing, stored_time, timed}
use Rattle.executive.specs.States.{is_dormant, is_paused, is_ready, takes}

-- ---- who enters, and how
abbrev pub entrant : TaskNo → How → Entrant
entrant k h = record { who = k; how = h }

-- entrants at the front of their places, free places last and blank; read off again
abbrev pub listed : List Entrant → Entrants
listed xs = record { places = pad most_tasks (entrant nobody Woken) xs; count = length xs }

abbrev pub named : Entrants → List Entrant
named l = take l.count l.places

pub record Listed (l : Entrants) : Type 0 where
  pub room : l.count ≤ most_tasks
  pub clear : l.places ≡ pad most_tasks (entrant nobody Woken) (named l)

-- whoever is named is woken; 0 names nobody
unfoldable pub wakes : TaskNo → List Entrant
wakes k = cond (eqb k.0 0) [] (entrant k Woken ∷ [])

-- task k enters, its wait over, if it is so
unfoldable pub raised_if : Bool → TaskNo → List Entrant
raised_if b k = cond b (entrant k Risen ∷ []) []

-- each of some numbers enters so; all tasks from number k on whose state passes a test, in ascending number
unfoldable pub raised_all : List TaskNo → List Entrant
raised_all [] = []
raised_all (k ∷ ks) = entrant k Risen ∷ raised_all ks

abbrev pub rising : (State → Bool) → ℕ → List Task → List Entrant
rising f k es = raised_all (passing f k es)

-- how many at the front stay ahead of a task that enters for its time, at: all of an earlier time
unfoldable pub earlier_of : List Task → ℕ → List Entrant → ℕ
earlier_of ts at [] = 0
earlier_of ts at (x ∷ xs) = cond (ltb (stored_time ts x.who) at) (suc (earlier_of ts at xs)) 0

-- task k enters, its wait over, at place i of those who enter
unfoldable pub raised_at : ℕ → TaskNo → List Entrant → List Entrant
raised_at i k xs = take i xs ++ (entrant k Risen ∷ drop i xs)

-- ---- a deed, and what it means at a table
-- with the task whose mail is gone; nobody's is
abbrev pub deed_emptying : TaskNo → Leave → List Entrant → Request → Change → Deed
deed_emptying c l xs q ch = record { leave = l; entrants = listed xs; request = q; change = ch; empties = c }

abbrev pub deed : Leave → List Entrant → Request → Change → Deed
deed l xs q ch = deed_emptying nobody l xs q ch

-- nobody enters; nothing is done
abbrev pub alone : Leave → Change → Deed
alone l ch = deed l [] no_request ch

abbrev pub no_deed : Deed
no_deed = alone leave.Stays change.Same

abbrev pub out_for : Leave → Out
out_for leave.Stays = stays
out_for leave.Sleeps = leaves as_dormant
out_for (leave.DueAt at) = leaves (due_at at)
out_for (leave.As s) = leaves (with_state s)

-- the caller's entry as it leaves; one that stays keeps it
abbrev pub gone_as : Leave → Task → Task
gone_as leave.Stays e = e
gone_as leave.Sleeps e = as_dormant e
gone_as (leave.DueAt at) e = due_at at e
gone_as (leave.As s) e = with_state s e

abbrev pub change_for : Request → Millis → How → Task → Task
change_for q now Woken = with_state state.Ready
change_for q now Risen = risen
change_for q now Begun = begun q now

unfoldable pub joins_for : Request → Millis → List Entrant → List Join
joins_for q now [] = []
joins_for q now (x ∷ xs) = record { who = x.who; change = change_for q now x.how } ∷ joins_for q now xs

-- the request that is put in is the deed's; the place that comes with the clock's advance is the first due alarm's, and
-- changes nothing
abbrev pub changed : Change → Request → Rest → Rest
changed change.Same q r = r
changed (change.Flags fs) q r = with_flags fs r
changed (change.Alarm f at) q r = with_alarm f.0 at r
changed change.Put q r = with_requests (requests r ++ (q ∷ [])) r
changed (change.Taken i) q r = with_requests (removed i (requests r)) r
changed (change.Clock i) q r = advanced r
changed (change.Held m k) q r = with_sub m.0 (enters_it k (sub_at r m.0)) r
changed (change.Lined m k i) q r = with_sub m.0 (joins_line i k (sub_at r m.0)) r
changed (change.HandedOn m) q r = with_sub m.0 (handed_on (sub_at r m.0)) r
changed (change.Posted m i) q r = with_letters (put_in_at i m (letters r)) r
changed (change.Delivered k x) q r = with_mail k.0 x r
changed (change.HandedOut i) q r = with_letters (removed i (letters r)) r

abbrev pub alters : Change → Bool
alters change.Same = false
alters (change.Flags fs) = true
alters (change.Alarm f at) = true
alters change.Put = true
alters (change.Taken i) = true
alters (change.Clock i) = true
alters (change.Held m k) = true
alters (change.Lined m k i) = true
alters (change.HandedOn m) = true
alters (change.Posted m i) = true
alters (change.Delivered k x) = true
alters (change.HandedOut i) = true

unfoldable pub meant : Deed → Table → Plan
meant d t = record {
  out = out_for d.leave;
  ins = joins_for d.request t.rest.clock (named d.entrants);
  rest = with_mail d.empties.0 no_mail (changed d.change d.request t.rest);
}

-- the place of the first alarm that a tick makes due; 32 where there is none
unfoldable pub first_due : Rest → ℕ
first_due r = next_of (is_due (r.clock.0 + r.granule)) 0 r.alarms

-- the flags once alarm i, if it is due at the clock c, has rung
unfoldable pub rung_in : ℕ → List Millis → ℕ → ℕ → ℕ
rung_in c alarms fs i = cond (is_due c (get_or alarms i never)) (flag_set fs i) fs

-- what an executor asks of a change, and of a deed: also room for all who enter, none of whom is ready yet, and a queue
-- with its word
abbrev pub Able : Change → Rest → Type 0
Able change.Same r = Unit {0}
Able (change.Flags fs) r = Unit {0}
Able (change.Alarm f at) r = f.0 < flag_count
Able change.Put r = r.queued < most_queued
Able (change.Taken i) r = i < r.queued
Able (change.Clock i) r = (r.clock.0 + r.granule ≤ end_of_time) × (i ≡ first_due r)
Able (change.Held m k) r = m.0 < sub_count
Able (change.Lined m k i) r = (m.0 < sub_count) × LineInOrder (sub_at r m.0) × (i ≤ (sub_at r m.0).waiting) × ((sub_at r m.0).waiting < most_tasks)
Able (change.HandedOn m) r = (m.0 < sub_count) × LineInOrder (sub_at r m.0)
Able (change.Posted m i) r = LettersInOrder r × (i ≤ r.sent) × (r.sent < most_sent)
Able (change.Delivered k x) r = Unit {0}
Able (change.HandedOut i) r = LettersInOrder r × (i < r.sent)

pub record Doable (d : Deed) (t : Table) : Type 0 where
  pub fit : ArraysInOrder t
  pub room : (depart (out_for d.leave) t).ready + d.entrants.count ≤ most_tasks
  pub able : Able d.change t.rest
  pub queue : Line is_ready t.tasks (line t)
  pub lit : t.levels ≡ levels_of (view t)
  pub finds : FindsRoom (joins_for d.request t.rest.clock (named d.entrants)) (depart (out_for d.leave) t)

-- ---- each kind's deed, from the parts of the table that it looks at
-- 00: the caller c, the waiter w for its run's end; with the request q for it, at place i; with none
abbrev pub anew_deed : TaskNo → TaskNo → Request → ℕ → Deed
anew_deed w c q i = deed_emptying c leave.Sleeps (wakes w ++ (entrant c Begun ∷ wakes q.start_waiter)) q (change.Taken i)

abbrev pub sleep_deed : TaskNo → TaskNo → Deed
sleep_deed w c = deed_emptying c leave.Sleeps (wakes w) no_request change.Same

-- the tasks, the requests, the caller; the earliest request for it at place i
abbrev pub end_deed_by : List Task → List Request → TaskNo → ℕ → Deed
end_deed_by ts rs c i =
    cond (ltb i (length rs))
    (anew_deed (task_at ts c.0).end_waiter c (get_or rs i no_request) i)
    (sleep_deed (task_at ts c.0).end_waiter c)

unfoldable pub terminate_deed : List Task → List Request → TaskNo → Deed
terminate_deed ts rs c = end_deed_by ts rs c (place_of c.0 rs)

-- 01: the caller, its entry and the time aimed at
abbrev pub restart_deed_by : TaskNo → Task → Millis → Millis → Deed
restart_deed_by c e now aim =
    deed_emptying c (leave.DueAt aim) (wakes e.end_waiter ++ raised_if (leb aim.0 now.0) c) no_request change.Same

unfoldable pub restart_deed : TaskNo → Task → Millis → ℕ → ℕ → Deed
restart_deed c e now p n = restart_deed_by c e now (aim_at e.start now p n)

-- 02
unfoldable pub pause_deed : Millis → ℕ → ℕ → Deed
pause_deed now u n = cond (eqb n 0) no_deed (alone (leave.As (state.Paused (record { 0 = now.0 + (interval u n).0 }))) change.Same)

-- 03: the state of task k
unfoldable pub cancel_pause_deed : State → TaskNo → Deed
cancel_pause_deed s k = cond (is_paused s) (deed leave.Stays (entrant k Risen ∷ []) no_request change.Same) no_deed

-- 04, 05
abbrev pub leave_of : AwaitedMoment → Leave
leave_of ForNothing = leave.Stays
leave_of ForStart = leave.As state.AwaitStart
leave_of ForEnd = leave.As state.AwaitEnd

unfoldable pub start_now_deed : Request → AwaitedMoment → Deed
start_now_deed q wt = deed (leave_of (at_once wt)) (entrant q.target Begun ∷ []) q change.Same

unfoldable pub queue_request_deed : Request → AwaitedMoment → Deed
queue_request_deed q wt = deed (leave_of wt) [] q change.Put

-- the caller c, the entry e of the target k
unfoldable pub start_if_dormant_deed : TaskNo → Task → ℕ → TaskNo → Deed
start_if_dormant_deed c e o k = cond (is_dormant e.state) (start_now_deed (asks c ForNothing k (priority_of o e.own) 0) ForNothing) no_deed

unfoldable pub asked_by : TaskNo → Task → ℕ → TaskNo → ℕ → Request
asked_by c e o k a = asks c (wait_of o) k (priority_of o e.own) (argument_of o a)

unfoldable pub start_or_queue_deed : TaskNo → Task → ℕ → TaskNo → ℕ → Deed
start_or_queue_deed c e o k a =
    cond (is_dormant e.state) (start_now_deed (asked_by c e o k a) (wait_of o)) (queue_request_deed (asked_by c e o k a) (wait_of o))

-- 09, 0A, 0B: the tasks and the flags
unfoldable pub set_deed : List Task → ℕ → FlagNo → Deed
set_deed ts fs f = deed leave.Stays (rising (holds (flag_set fs f.0)) 1 ts) no_request (change.Flags (flag_set fs f.0))

unfoldable pub flag_deed : List Task → ℕ → ℕ → FlagNo → Deed
flag_deed ts fs o f =
    cond (eqb o 0) (alone leave.Stays (change.Flags (flag_reset fs f.0))) (cond (eqb o 1) (set_deed ts fs f) no_deed)

unfoldable pub wait_deed : ℕ → ℕ → ℕ → Deed
wait_deed fs m mask = cond (met fs (mode_of m) mask) no_deed (alone (leave.As (state.Flags (mode_of m) mask)) change.Same)

unfoldable pub alarm_deed : List Task → Millis → ℕ → ℕ → ℕ → FlagNo → Deed
alarm_deed ts now fs u n f =
    cond (eqb n 0) (set_deed ts fs f) (alone leave.Stays (change.Alarm f (record { 0 = now.0 + (interval u n).0 })))

-- 80
unfoldable pub tick_deed : List Task → Rest → Deed
tick_deed ts r =
    deed leave.Stays (raised_all (timed (advanced r).clock.0 ts) ++ rising (holds (advanced r).flags) 1 ts) no_request (change.Clock (first_due r))

-- 06, 07: the caller c, its place in the line, the subprogram m as it is
unfoldable pub enter_deed : TaskNo → ℕ → SubNo → Sub → Deed
enter_deed c i m s =
    cond (is_held s) (alone (leave.As (state.AwaitSub m)) (change.Lined m c i)) (alone leave.Stays (change.Held m c))

unfoldable pub exit_deed : SubNo → Sub → Deed
exit_deed m s = deed leave.Stays (wakes (head_of (line_of s))) no_request (change.HandedOn m)

-- 14: the caller c at its priority p, the state s of task k, the place i behind all of equal or higher priority
unfoldable pub send_deed : TaskNo → ℕ → State → ℕ → TaskNo → Text → Deed
send_deed c p s i k x =
    cond (takes c.0 s)
    (deed leave.Stays (wakes k) no_request (change.Delivered k (record { sender = c; text = x })))
    (alone leave.Stays (change.Posted (record { to = k; sender = c; priority = p; text = x }) i))

-- 15: the caller c, from number s; of n messages the first that fits is at place i
abbrev pub receive_deed_by : TaskNo → TaskNo → ℕ → ℕ → Deed
receive_deed_by c s i n =
    cond (ltb i n)
    (deed_emptying c leave.Stays [] no_request (change.HandedOut i))
    (deed_emptying c (leave.As (state.AwaitMessage s)) [] no_request change.Same)

unfoldable pub receive_deed : TaskNo → List Message → TaskNo → Deed
receive_deed c ms s = receive_deed_by c s (first_fit c.0 s.0 ms) (length ms)

-- ---- what the kinds' functions ask of the tasks, the rest and the caller
-- nobody's flag condition holds
abbrev pub AllUnmet : ℕ → List Task → Type 0
AllUnmet fs ts = (k : ℕ) → Unmet fs (task_at ts k).state

pub record Judgeable (ts : List Task) (r : Rest) (c : TaskNo) : Type 0 where
  pub queued : r.queued ≤ most_queued
  pub clock : r.clock.0 ≤ end_of_time
  pub started : (task_at ts c.0).start.0 ≤ r.clock.0
  pub unmet : AllUnmet r.flags ts
  pub waiting : (m : ℕ) → (sub_at r m).waiting ≤ most_tasks
  pub sent : r.sent ≤ most_sent

-- ---- a decision: refused with a number, or done with the marks of the answer
abbrev pub refusing : ℕ → Decision
refusing n = record { number = n; marks = record { z = false; v = false; c = false; skipped = 0; sender = nobody; text = no_text }; deed = no_deed }

abbrev pub doing : Marks → Deed → Decision
doing m d = record { number = 0; marks = m; deed = d }

-- what holds of every rest with these alarms, this clock, this granule and these flags
abbrev pub AllRests : List Millis → Millis → ℕ → ℕ → (Rest → Type 0) → Type 0
AllRests al c g fs P = (r : Rest) → r.alarms ≡ al → r.clock ≡ c → r.granule ≡ g → r.flags ≡ fs → P r
