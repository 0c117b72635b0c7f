-- The rules of the calls (docs/CALLS.md, 4 and 5), a plan for each kind: who departs, who enters in which order,
-- what the rest of the table is afterwards.
-- Rulings that 01 marks H are marked H here.
use Rattle.std.specs.Prelude.{ℕ, suc, ◌+◌, ◌/◌, ◌%◌, Bool, ◌&&◌, cond, List, [], ◌∷◌, ◌++◌, leb, ltb, eqb, length, get_or}
use Rattle.records.specs.declared.TaskNo.{TaskNo}
use Rattle.records.specs.declared.FlagNo.{FlagNo}
use Rattle.records.specs.declared.SubNo.{SubNo}
use Rattle.records.specs.declared.Text.{Text}
use Rattle.executive.specs.declared.Millis.{Millis}
use Rattle.executive.specs.declared.AwaitedMoment.{AwaitedMoment}
use Rattle.executive.specs.declared.AwaitedMoment.TheVariants.{ForNothing, ForStart, ForEnd}
use Rattle.executive.specs.declared.State.{State}
use Rattle.executive.specs.declared.State.TheVariants.{Ready, Paused, Flags, AwaitStart, AwaitEnd, AwaitSub, AwaitMessage}
use Rattle.executive.specs.declared.Task.{Task}
use Rattle.executive.specs.declared.Request.{Request}
use Rattle.executive.specs.declared.Message.{Message}
use Rattle.executive.specs.declared.Rest.{Rest}
use Rattle.executive.specs.declared.Table.{Table}
use Rattle.executive.specs.Places.{nobody, no_request, task_at}
use Rattle.executive.specs.Table.{line, head_of, Out, stays, leaves, Join, Plan}
use Rattle.executive.specs.Subprograms.{sub_at, line_of, is_held, enters_it, waits_behind, handed_on, with_sub}
use Rattle.executive.specs.Messages.{no_mail, letters, with_letters, first_fit, post, with_mail}
use Rattle.executive.specs.Pool.{requests, with_requests, place_of, removed}
use Rattle.executive.specs.States.{time_of, mask_of, is_dormant, is_paused, has_time, has_mask, wait_mode, takes}
use Rattle.executive.specs.Entries.{with_state, as_dormant, begun, due_at, risen}
use Rattle.executive.specs.Clock.{interval, aim_at, with_alarm, advanced}
use Rattle.executive.specs.Flags.{with_flags, flag_set, flag_reset, met, mode_of}

-- ---- the caller is the active task, the head of the ready queue
abbrev pub caller : Table → TaskNo
caller t = head_of (line t)

abbrev pub state_at : Table → TaskNo → State
state_at t k = (task_at t.tasks k.0).state

-- ---- who enters
-- whoever is named enters; 0 names nobody
unfoldable pub waking : TaskNo → List Join
waking k = cond (eqb k.0 0) [] (record { who = k; change = with_state Ready } ∷ [])

-- whoever waits for the end of task c's run
abbrev pub end_waiter : Table → TaskNo → TaskNo
end_waiter t c = (task_at t.tasks c.0).end_waiter

-- a request's run begins for task k
abbrev pub begins : TaskNo → Request → Millis → Join
begins k r now = record { who = k; change = begun r now }

-- task k enters, its wait over
abbrev pub raising : TaskNo → Join
raising k = record { who = k; change = risen }

abbrev pub nothing : Table → Plan
nothing t = record { out = stays; ins = []; rest = t.rest }

-- ---- 00: the caller departs; whoever waits for this run's end enters; the earliest request for the caller, if one
-- is queued, is taken from the pool
-- and the caller enters with its priority and argument, scheduled start now; whoever waited for that start enters
-- (H). What stands in the caller's entry as its mail is gone (02). The caller c, the requests rs,
-- the earliest of them for c at place i
abbrev pub terminate_by : Table → TaskNo → List Request → ℕ → Plan
terminate_by t c rs i =
    cond (ltb i (length rs))
    (record {
      out = leaves as_dormant;
      ins = waking (end_waiter t c) ++ (begins c (get_or rs i no_request) t.rest.clock ∷ waking (get_or rs i no_request).start_waiter);
      rest = with_mail c.0 no_mail (with_requests (removed i rs) t.rest);
    })
    (record { out = leaves as_dormant; ins = waking (end_waiter t c); rest = with_mail c.0 no_mail t.rest })

unfoldable pub terminate_plan : Table → Plan
terminate_plan t = terminate_by t (head_of (line t)) (requests t.rest) (place_of (head_of (line t)).0 (requests t.rest))

-- ---- 01: the caller departs and its end-waiter enters. It is due at the time aimed at; if that is at or before
-- the clock, it enters at once, and
-- entering makes that time its scheduled start. Its mail is gone (02)
abbrev pub restart_by : Table → TaskNo → Millis → Plan
restart_by t c aim = record {
  out = leaves (due_at aim);
  ins = waking (end_waiter t c) ++ cond (leb aim.0 t.rest.clock.0) (raising c ∷ []) [];
  rest = with_mail c.0 no_mail t.rest;
}

unfoldable pub restart_plan : Table → ℕ → ℕ → Plan
restart_plan t p n = restart_by t (head_of (line t)) (aim_at (task_at t.tasks (head_of (line t)).0).start t.rest.clock p n)

-- ---- 02: count 0 changes nothing (H); otherwise the caller departs until now plus interval
unfoldable pub pause_plan : Table → ℕ → ℕ → Plan
pause_plan t unit n =
    cond (eqb n 0) (nothing t)
    (record { out = leaves (with_state (Paused (record { 0 = t.rest.clock.0 + (interval unit n).0 }))); ins = []; rest = t.rest })

-- ---- 03: a paused task enters; any other state, a due one included: no change
unfoldable pub cancel_pause_plan : Table → TaskNo → Plan
cancel_pause_plan t k = cond (is_paused (state_at t k)) (record { out = stays; ins = raising k ∷ []; rest = t.rest }) (nothing t)

-- ---- 04, 05: option bit 7: the target's own priority, otherwise bits 3..0
unfoldable pub priority_of : ℕ → ℕ → ℕ
priority_of option own = cond (ltb option 128) (option % 16) own

-- in 05, bit 6 waits for the run's end, bit 5 for its start, bit 4 means no argument
unfoldable pub wait_of : ℕ → AwaitedMoment
wait_of option = cond (eqb (option / 64 % 2) 1) ForEnd (cond (eqb (option / 32 % 2) 1) ForStart ForNothing)

unfoldable pub argument_of : ℕ → ℕ → ℕ
argument_of option a = cond (eqb (option / 16 % 2) 1) 0 a

-- waiting for a start that happens at once is no wait
abbrev pub at_once : AwaitedMoment → AwaitedMoment
at_once ForNothing = ForNothing
at_once ForStart = ForNothing
at_once ForEnd = ForEnd

abbrev pub out_of : AwaitedMoment → Out
out_of ForNothing = stays
out_of ForStart = leaves (with_state AwaitStart)
out_of ForEnd = leaves (with_state AwaitEnd)

abbrev pub start_waiter_of : AwaitedMoment → TaskNo → TaskNo
start_waiter_of ForNothing c = nobody
start_waiter_of ForStart c = c
start_waiter_of ForEnd c = nobody

abbrev pub end_waiter_of : AwaitedMoment → TaskNo → TaskNo
end_waiter_of ForNothing c = nobody
end_waiter_of ForStart c = nobody
end_waiter_of ForEnd c = c

-- the request that caller c makes for task k, at priority p with argument a
abbrev pub asks : TaskNo → AwaitedMoment → TaskNo → ℕ → ℕ → Request
asks c wt k p a = record { target = k; priority = p; argument = a; start_waiter = start_waiter_of wt c; end_waiter = end_waiter_of wt c }

-- a dormant target starts now. A caller that must wait departs first, and then the target enters
unfoldable pub start_now_plan : Table → Request → AwaitedMoment → Plan
start_now_plan t q wt = record { out = out_of (at_once wt); ins = begins q.target q t.rest.clock ∷ []; rest = t.rest }

-- a busy target: the request is queued
unfoldable pub queue_request_plan : Table → Request → AwaitedMoment → Plan
queue_request_plan t q wt = record { out = out_of wt; ins = []; rest = with_requests (requests t.rest ++ (q ∷ [])) t.rest }

-- 04: a dormant target starts with argument 0 (H), a busy one changes nothing
unfoldable pub start_if_dormant_plan : Table → ℕ → TaskNo → Plan
start_if_dormant_plan t option k =
    cond (is_dormant (state_at t k)) (start_now_plan t (asks (caller t) ForNothing k (priority_of option (task_at t.tasks k.0).own) 0) ForNothing) (nothing t)

-- 05: a dormant target starts, a busy one is asked for later
unfoldable pub request_of : Table → ℕ → TaskNo → ℕ → Request
request_of t option k a = asks (caller t) (wait_of option) k (priority_of option (task_at t.tasks k.0).own) (argument_of option a)

unfoldable pub start_or_queue_plan : Table → ℕ → TaskNo → ℕ → Plan
start_or_queue_plan t option k a =
    cond (is_dormant (state_at t k)) (start_now_plan t (request_of t option k a) (wait_of option)) (queue_request_plan t (request_of t option k a) (wait_of option))

-- whether a task waits for flags and its condition holds
abbrev pub holds : ℕ → State → Bool
holds fs s = has_mask s && met fs (wait_mode s) (mask_of s)

-- the numbers of the tasks from number k on whose state passes a test, ascending
unfoldable pub passing : (State → Bool) → ℕ → List Task → List TaskNo
passing f k [] = []
passing f k (e ∷ es) = cond (f e.state) (record { 0 = k } ∷ passing f (suc k) es) (passing f (suc k) es)

-- each of some numbers enters, its wait over; so do all tasks from number k on whose state passes a test
unfoldable pub raisings : List TaskNo → List Join
raisings [] = []
raisings (k ∷ ks) = raising k ∷ raisings ks

abbrev pub risers : (State → Bool) → ℕ → List Task → List Join
risers f k es = raisings (passing f k es)

-- ---- 09: after a set, all tasks whose condition now holds enter in ascending number. Flags never reset themselves (H)
unfoldable pub set_plan : Table → FlagNo → Plan
set_plan t f = record {
  out = stays;
  ins = risers (holds (flag_set t.rest.flags f.0)) 1 t.tasks;
  rest = with_flags (flag_set t.rest.flags f.0) t.rest;
}

unfoldable pub reset_plan : Table → FlagNo → Plan
reset_plan t f = record { out = stays; ins = []; rest = with_flags (flag_reset t.rest.flags f.0) t.rest }

-- operation 0 resets, 1 sets, 2 tests
unfoldable pub flag_plan : Table → ℕ → FlagNo → Plan
flag_plan t operation f = cond (eqb operation 0) (reset_plan t f) (cond (eqb operation 1) (set_plan t f) (nothing t))

unfoldable pub wait_plan : Table → ℕ → ℕ → Plan
wait_plan t m mask =
    cond (met t.rest.flags (mode_of m) mask) (nothing t) (record { out = leaves (with_state (Flags (mode_of m) mask)); ins = []; rest = t.rest })

-- ---- 0B: count 0 acts as a set now; otherwise the alarm is stored
unfoldable pub alarm_plan : Table → ℕ → ℕ → FlagNo → Plan
alarm_plan t unit n f =
    cond (eqb n 0) (set_plan t f)
    (record { out = stays; ins = []; rest = with_alarm f.0 (record { 0 = t.rest.clock.0 + (interval unit n).0 }) t.rest })

-- ---- 80: whether a paused or due task's time has come, at the clock c
abbrev pub time_up : ℕ → State → Bool
time_up c s = has_time s && leb (time_of s).0 c

-- the time stored in task k's entry; that of a due task is the time aimed at
abbrev pub stored_time : List Task → TaskNo → ℕ
stored_time ts k = (time_of (task_at ts k.0).state).0

-- numbers in the order of their stored times. Each goes behind all of an earlier time and ahead of the others, which
-- stood behind it: equals keep their order
unfoldable pub put_by_time : List Task → TaskNo → List TaskNo → List TaskNo
put_by_time ts k [] = k ∷ []
put_by_time ts k (j ∷ js) = cond (ltb (stored_time ts j) (stored_time ts k)) (j ∷ put_by_time ts k js) (k ∷ j ∷ js)

unfoldable pub by_time : List Task → List TaskNo → List TaskNo
by_time ts [] = []
by_time ts (k ∷ ks) = put_by_time ts k (by_time ts ks)

-- those whose time has come at the clock c: by stored time, equal times by number
unfoldable pub timed : ℕ → List Task → List TaskNo
timed c ts = by_time ts (passing (time_up c) 1 ts)

-- the clock gains one granule and due alarms set their flags; then each paused or due task whose time is at or before
-- the clock enters, in the order of time, and then each whose flag condition holds, in ascending number (02). The rest r
-- has the clock and the flags of then
abbrev pub tick_by : Table → Rest → Plan
tick_by t r = record { out = stays; ins = raisings (timed r.clock.0 t.tasks) ++ risers (holds r.flags) 1 t.tasks; rest = r }

unfoldable pub tick_plan : Table → Plan
tick_plan t = tick_by t (advanced t.rest)

-- ---- 06 (02): a free subprogram gets the caller for its holder. At a held one the caller departs and waits in its line,
-- behind all of equal or higher priority
unfoldable pub enter_plan : Table → SubNo → Plan
enter_plan t m =
    cond (is_held (sub_at t.rest m.0))
    (record {
      out = leaves (with_state (AwaitSub m));
      ins = [];
      rest = with_sub m.0 (waits_behind t.tasks (caller t) (sub_at t.rest m.0)) t.rest;
    })
    (record { out = stays; ins = []; rest = with_sub m.0 (enters_it (caller t) (sub_at t.rest m.0)) t.rest })

-- ---- 07 (02): the first of the line becomes the holder and enters; where nobody waits, the subprogram is free
unfoldable pub exit_plan : Table → SubNo → Plan
exit_plan t m = record {
  out = stays;
  ins = waking (head_of (line_of (sub_at t.rest m.0)));
  rest = with_sub m.0 (handed_on (sub_at t.rest m.0)) t.rest;
}

-- ---- 14 (02): where task k waits for a message that the caller may send, it enters, and the message stands in its entry.
-- Else the message waits, behind all of equal or higher priority: the caller's as it is now
abbrev pub letter_of : Table → TaskNo → Text → Message
letter_of t k x = record { to = k; sender = caller t; priority = (task_at t.tasks (caller t).0).priority; text = x }

unfoldable pub send_plan : Table → TaskNo → Text → Plan
send_plan t k x =
    cond (takes (caller t).0 (state_at t k))
    (record { out = stays; ins = waking k; rest = with_mail k.0 (record { sender = caller t; text = x }) t.rest })
    (record { out = stays; ins = []; rest = with_letters (post (letter_of t k x) (letters t.rest)) t.rest })

-- ---- 15 (02): the first waiting message that fits is handed out and the rest close up; where there is none, the caller
-- departs and waits for one. What stood in its entry is gone. The caller c, from number s, the first at place i
abbrev pub receive_by : Table → TaskNo → TaskNo → ℕ → Plan
receive_by t c s i =
    cond (ltb i (length (letters t.rest)))
    (record { out = stays; ins = []; rest = with_mail c.0 no_mail (with_letters (removed i (letters t.rest)) t.rest) })
    (record { out = leaves (with_state (AwaitMessage s)); ins = []; rest = with_mail c.0 no_mail t.rest })

unfoldable pub receive_plan : Table → TaskNo → Plan
receive_plan t s = receive_by t (caller t) s (first_fit (caller t).0 s.0 (letters t.rest))
