-- The sheet of each kind of call: all that docs/CALLS.md says of it in one clause. What refuses it beyond the common
-- numbers, its marks, its plan.
use Rattle.std.specs.Prelude.{ℕ, ◌+◌, ◌/◌, ◌%◌, Bool, true, false, not, cond, ◌||◌, List, leb, ltb, eqb, get_or}
use Rattle.records.specs.declared.TaskNo.{TaskNo}
use Rattle.records.specs.declared.Call.{Call}
use Rattle.records.specs.declared.Call.TheVariants as call
use Rattle.executive.specs.declared.Millis.{Millis}
use Rattle.executive.specs.declared.Task.{Task}
use Rattle.executive.specs.declared.Message.{Message}
use Rattle.executive.specs.declared.Rest.{Rest}
use Rattle.executive.specs.declared.Table.{Table}
use Rattle.executive.specs.declared.Marks.{Marks}
use Rattle.executive.specs.declared.decisions.Deed.{Deed}
use Rattle.executive.specs.declared.decisions.Decision.{Decision}
use Rattle.executive.specs.Numbers.{last_unit, last_sub, most_queued, most_sent, end_of_time}
use Rattle.executive.specs.Lists.{◌and◌}
use Rattle.executive.specs.Places.{nobody, never, task_at}
use Rattle.executive.specs.Pool.{requests}
use Rattle.executive.specs.Table.{ahead_of, Plan}
use Rattle.executive.specs.Subprograms.{sub_at, line_of, holds?, holds_any_of}
use Rattle.executive.specs.Messages.{no_text, no_message, letters, first_fit, stay_ahead, urgency}
use Rattle.executive.specs.Clock.{skipped_of}
use Rattle.executive.specs.Flags.{is_set, met, mode_of}
use Rattle.executive.specs.States.{is_dormant, is_paused, takes}
use Rattle.executive.specs.Plans.{caller, nothing, terminate_plan, restart_plan, pause_plan, cancel_pause_plan}
use Rattle.executive.specs.Plans.{start_if_dormant_plan, start_or_queue_plan, flag_plan, wait_plan, alarm_plan, tick_plan, enter_plan, exit_plan}
use Rattle.executive.specs.Plans.{send_plan, receive_plan}
use Rattle.executive.specs.Decisions.{no_deed, terminate_deed, restart_deed, pause_deed, cancel_pause_deed, start_if_dormant_deed, start_or_queue_deed, flag_deed, wait_deed}
use Rattle.executive.specs.Decisions.{alarm_deed, tick_deed, enter_deed, exit_deed, send_deed, receive_deed, refusing, doing}

-- what is said of one call
pub record Rule : Type 0 where
  -- 5: it is the tick, which no task calls; any other is refused where nobody is active
  pub tick : Bool
  -- 6: a number in its body is out of range
  pub body : Bool
  -- 13: it enters a subprogram that its caller holds
  pub inside : Bool
  -- 14: it leaves a subprogram that its caller does not hold
  pub outside : Bool
  -- 15: it ends a run whose task holds a subprogram
  pub holding : Bool
  -- 7: it names its caller
  pub itself : Bool
  -- 9: the alarm is running
  pub running : Bool
  -- 8: the pool is full
  pub full : Bool
  -- 16: its message would have to wait, and 32 wait
  pub crowded : Bool
  -- 10: it would carry the clock past its end
  pub late : Bool
  -- Z, V and C once it is accepted, how many grid times it passes over, the message that it hands out
  pub marks : Marks
  -- the plan at a table, and the same as a small value
  pub plan : Table → Plan
  pub deed : Deed

-- ---- the common shapes
-- a call that ends its caller's run: its body can refuse it, and that the caller holds a subprogram
abbrev pub ending : Bool → Bool → Marks → (Table → Plan) → Deed → Rule
ending bad held m p d = record {
  tick = false;
  body = bad;
  inside = false;
  outside = false;
  holding = held;
  itself = false;
  running = false;
  full = false;
  crowded = false;
  late = false;
  marks = m;
  plan = p;
  deed = d;
}

-- a call that its body alone can refuse
abbrev pub plain : Bool → Marks → (Table → Plan) → Deed → Rule
plain bad m p d = ending bad false m p d

-- Z, V and C; those not mentioned are 0
abbrev pub marks : Bool → Bool → Bool → Marks
marks z v c = record { z = z; v = v; c = c; skipped = 0; sender = nobody; text = no_text }

abbrev pub only_z : Bool → Marks
only_z z = marks z false false

-- a call of one subprogram: there is none of that number, or it is held or not held by the caller
abbrev pub of_sub : Bool → Bool → Bool → (Table → Plan) → Deed → Rule
of_sub bad held other p d = record {
  tick = false;
  body = bad;
  inside = held;
  outside = other;
  holding = false;
  itself = false;
  running = false;
  full = false;
  crowded = false;
  late = false;
  marks = only_z false;
  plan = p;
  deed = d;
}

-- 01: V for units 6 and 7; the grid times that a restart with bit 6 passes over (02)
abbrev pub restart_marks : Millis → Millis → ℕ → ℕ → Marks
restart_marks start now p n = record {
  z = false;
  v = ltb last_unit (p % 8);
  c = false;
  skipped = skipped_of start now p n;
  sender = nobody;
  text = no_text;
}

-- 09: C is the flag's old value; Z if set or reset changes nothing; test has Z 0
abbrev pub flag_marks : ℕ → Bool → Marks
flag_marks operation old = marks (cond (eqb operation 0) (not old) (cond (eqb operation 1) old false)) false old

-- 15: the sender and the text of the message m that is handed out; zeros where that is a blank one
abbrev pub hands_out : Message → Marks
hands_out m = record { z = false; v = false; c = false; skipped = 0; sender = m.sender; text = m.text }

-- a task that is not 1 to the task count
abbrev pub no_such_task : Rest → TaskNo → Bool
no_such_task r k = eqb k.0 0 || ltb r.count k.0

-- a configuration record is no call
abbrev pub no_call : Rule
no_call = plain false (only_z false) (λ t. nothing t) no_deed

-- ---- the kinds: what is said of a call with the tasks ts, the rest r and the caller c. No queue is looked at
abbrev pub sheet : List Task → Rest → TaskNo → Call → Rule
-- 00 and 01: 15 while the caller holds a subprogram (02)
sheet ts r c call.Terminate = ending false (holds_any_of c r.subs) (only_z false) (λ t. terminate_plan t) (terminate_deed ts (requests r) c)
-- 01: 6 with both bits 7 and 6 (02)
sheet ts r c (call.Restart p n) =
    ending (eqb (p / 64 % 4) 3) (holds_any_of c r.subs)
    (restart_marks (task_at ts c.0).start r.clock p n)
    (λ t. restart_plan t p n)
    (restart_deed c (task_at ts c.0) r.clock p n)
-- 02: 6 with a unit over 5. Count 0 has Z (H)
sheet ts r c (call.Pause u n) = plain (ltb last_unit u) (only_z (eqb n 0)) (λ t. pause_plan t u n) (pause_deed r.clock u n)
-- 03: Z where the task is not paused
sheet ts r c (call.CancelPause k) =
    plain (no_such_task r k) (only_z (not (is_paused (task_at ts k.0).state))) (λ t. cancel_pause_plan t k)
    (cancel_pause_deed (task_at ts k.0).state k)
-- 04: 6 with any of bits 6..4. Z where the target is busy
sheet ts r c (call.StartIfDormant o k) =
    plain (no_such_task r k || not (eqb (o / 16 % 8) 0)) (only_z (not (is_dormant (task_at ts k.0).state)))
    (λ t. start_if_dormant_plan t o k) (start_if_dormant_deed c (task_at ts k.0) o k)
-- 05: 6 with both bits 6 and 5; 7 where the caller would wait for itself; 8 where the target is busy and 32 requests
-- are queued in all. Z where the target is busy
sheet ts r c (call.StartOrQueue o k a) = record {
  tick = false;
  body = no_such_task r k || eqb (o / 32 % 4) 3;
  inside = false;
  outside = false;
  holding = false;
  itself = eqb k.0 c.0 and not (eqb (o / 32 % 4) 0);
  running = false;
  full = not (is_dormant (task_at ts k.0).state) and leb most_queued r.queued;
  crowded = false;
  late = false;
  marks = only_z (not (is_dormant (task_at ts k.0).state));
  plan = λ t. start_or_queue_plan t o k a;
  deed = start_or_queue_deed c (task_at ts k.0) o k a;
}
-- 09: 6 with a flag over 31 or an operation over 2
sheet ts r c (call.Flag o f) =
    plain (ltb 31 f.0 || ltb 2 o) (flag_marks o (is_set r.flags f.0)) (λ t. flag_plan t o f) (flag_deed ts r.flags o f)
-- 0A: 6 with a mode over 1 or mask 0. Z where the condition is true already
sheet ts r c (call.Wait m mask) =
    plain (ltb 1 m || eqb mask 0) (only_z (met r.flags (mode_of m) mask)) (λ t. wait_plan t m mask) (wait_deed r.flags m mask)
-- 0B: 6 with a unit over 5 or a flag over 31; 9 where the flag's alarm is running. C as in 09; count 0 acts as a set,
-- with its Z
sheet ts r c (call.Alarm u n f) = record {
  tick = false;
  body = ltb last_unit u || ltb 31 f.0;
  inside = false;
  outside = false;
  holding = false;
  itself = false;
  running = not (eqb (get_or r.alarms f.0 never).0 0);
  full = false;
  crowded = false;
  late = false;
  marks = marks (eqb n 0 and is_set r.flags f.0) false (is_set r.flags f.0);
  plan = λ t. alarm_plan t u n f;
  deed = alarm_deed ts r.clock r.flags u n f;
}
-- 80: 10 where the clock would pass 2^40
sheet ts r c call.Tick = record {
  tick = true;
  body = false;
  inside = false;
  outside = false;
  holding = false;
  itself = false;
  running = false;
  full = false;
  crowded = false;
  late = ltb end_of_time (r.clock.0 + r.granule);
  marks = only_z false;
  plan = λ t. tick_plan t;
  deed = tick_deed ts r;
}
sheet ts r c (call.Granule g) = no_call
sheet ts r c (call.Task p m) = no_call
sheet ts r c call.End = no_call
-- 06, 07: 6 with a number over 7; 13 where the caller holds it already, 14 where it does not hold it. Z, V, C are 0
sheet ts r c (call.Enter m) =
    of_sub (ltb last_sub m.0) (holds? c (sub_at r m.0)) false
    (λ t. enter_plan t m)
    (enter_deed c (ahead_of ts (task_at ts c.0).priority (line_of (sub_at r m.0))) m (sub_at r m.0))
sheet ts r c (call.Exit m) =
    of_sub (ltb last_sub m.0) false (not (holds? c (sub_at r m.0))) (λ t. exit_plan t m) (exit_deed m (sub_at r m.0))
-- 14: 6 with a task that is not 1 to the task count; 16 where the message would have to wait and 32 wait. Z, V, C are 0
sheet ts r c (call.Send k x) = record {
  tick = false;
  body = no_such_task r k;
  inside = false;
  outside = false;
  holding = false;
  itself = false;
  running = false;
  full = false;
  crowded = not (takes c.0 (task_at ts k.0).state) and leb most_sent r.sent;
  late = false;
  marks = only_z false;
  plan = λ t. send_plan t k x;
  deed = send_deed c (task_at ts c.0).priority (task_at ts k.0).state (stay_ahead urgency (task_at ts c.0).priority (letters r)) k x;
}
-- 15: 6 with a sender over the task count; 0 is any. Z, V, C are 0; the first message that fits is told, if there is one
sheet ts r c (call.Receive s) =
    plain (ltb r.count s.0)
    (hands_out (get_or (letters r) (first_fit c.0 s.0 (letters r)) no_message))
    (λ t. receive_plan t s) (receive_deed c (letters r) s)

-- what is said of a call at a table
abbrev pub rule_of : Table → Call → Rule
rule_of t c = sheet t.tasks t.rest (caller t) c

-- ---- what a sheet decides: refused with the first number that is given, or done. Number 5 stands before it, 11 behind
abbrev pub judged : Rule → Decision
judged r =
    cond r.body (refusing 6)
    (cond r.inside (refusing 13)
    (cond r.outside (refusing 14)
    (cond r.holding (refusing 15)
    (cond r.itself (refusing 7)
    (cond r.running (refusing 9)
    (cond r.full (refusing 8)
    (cond r.crowded (refusing 16) (cond r.late (refusing 10) (doing r.marks r.deed)))))))))

unfoldable pub decided : List Task → Rest → TaskNo → Call → Decision
decided ts r k c = judged (sheet ts r k c)

unfoldable pub decision_of : List Task → Rest → TaskNo → Call → Decision
decision_of ts r k c = cond (not (sheet ts r k c).tick and eqb k.0 0) (refusing 5) (decided ts r k c)

-- ---- what the sheet says of a call, and the plan of one that is accepted
unfoldable pub plan_of : Table → Call → Plan
plan_of t c = (rule_of t c).plan t

-- ---- Z, V and C of an accepted call, how many grid times it passes over, the message that it hands out
unfoldable pub marks_of : Table → Call → Marks
marks_of t c = (rule_of t c).marks
