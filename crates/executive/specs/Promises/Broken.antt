-- Tables that are broken in exactly one rule, a few for each rule: the check refuses each of them, by that rule alone.
use Rattle.std.specs.Prelude.{◌≡◌, Bool, true, false, List, [], ◌∷◌, ℕ, ◌+◌, ◌^◌, set, replicate}
use Rattle.records.specs.declared.TaskNo.{TaskNo}
use Rattle.executive.specs.declared.Millis.{Millis}
use Rattle.executive.specs.declared.Mode.TheVariants.{All}
use Rattle.executive.specs.declared.State.{State}
use Rattle.executive.specs.declared.State.TheVariants.{Dormant, Ready, Paused, Due, Flags, AwaitStart, AwaitEnd, AwaitSub, AwaitMessage}
use Rattle.executive.specs.declared.Task.{Task}
use Rattle.executive.specs.declared.Request.{Request}
use Rattle.executive.specs.declared.Sub.{Sub}
use Rattle.executive.specs.declared.Message.{Message}
use Rattle.executive.specs.declared.Table.{Table}
use Rattle.executive.specs.Numbers.{most_tasks, most_queued, most_sent, flag_count, sub_count, longest}
use Rattle.executive.specs.Places.{nobody, never, no_task, no_request, put_at}
use Rattle.executive.specs.Lists.{pad}
use Rattle.executive.specs.Subprograms.{no_subprogram, held_by}
use Rattle.executive.specs.Messages.{no_message, no_mail}
use Rattle.executive.specs.Check.{numbers_right, order_right, levels_right, times_right, started_right, masks_right, busy_right, waiters_right, dormant_right}
use Rattle.executive.specs.Check.{pool_right, subs_right, messages_right, is_well_formed}
use Rattle.executive.specs.Rest.{with_post}
use Rattle.executive.specs.Table.{with_rest}

-- ---- the sound table: eleven tasks, the clock at 1,000 ms, flag 0 set
abbrev pub no : ℕ → TaskNo
no k = record { 0 = k }

abbrev pub now : ℕ
now = 1000

abbrev pub entry : State → ℕ → ℕ → ℕ → TaskNo → Task
entry s p a start w = record { own = 4; state = s; priority = p; argument = a; start = record { 0 = start }; end_waiter = w }

-- 1 and 2 are ready, 2 before 1; 3 waits for the end of 1's run; 4 is paused; 5 waits for flags 0 and 1; 6 waits
-- for a queued request; 7 is dormant; 8 is due; 9, 10 and 11 wait for subprogram 2, which 4 holds
abbrev pub entries : List Task
entries =
    pad most_tasks no_task (
    entry Ready 5 0 now (no 3)
    ∷ entry Ready 7 0 0 nobody
    ∷ entry AwaitEnd 3 0 0 nobody
    ∷ entry (Paused (record { 0 = now + 1 })) 3 0 0 nobody
    ∷ entry (Flags All 3) 3 0 0 nobody
    ∷ entry AwaitStart 3 0 0 nobody
    ∷ entry Dormant 0 0 0 nobody
    ∷ entry (Due (record { 0 = now + 1 })) 3 0 0 nobody
    ∷ entry (AwaitSub (record { 0 = 2 })) 3 0 0 nobody
    ∷ entry (AwaitSub (record { 0 = 2 })) 6 0 0 nobody
    ∷ entry (AwaitSub (record { 0 = 2 })) 3 0 0 nobody
    ∷ [])

abbrev pub lined : List TaskNo → List TaskNo
lined xs = pad most_tasks nobody xs

-- a request for task k, whose start task 6 waits for
abbrev pub asking : ℕ → List Request
asking k = pad most_queued no_request (record { target = no k; priority = 9; argument = 77; start_waiter = no 6; end_waiter = nobody } ∷ [])

-- the alarm of flag 4 is running
abbrev pub ringing : ℕ → List Millis
ringing at = set (pad flag_count never []) 4 (record { 0 = at })

-- all are free but subprogram 2
abbrev pub holding : Sub → List Sub
holding s = set (pad sub_count no_subprogram []) 2 s

-- 10 of priority 6 is first, then 9 and 11, of priority 3, as they came
abbrev pub shared : List Sub
shared = holding (held_by (no 4) (no 10 ∷ no 9 ∷ no 11 ∷ []))

abbrev pub table_of : ℕ → List Task → List TaskNo → ℕ → List Request → List Millis → List Sub → Table
table_of g ts q levels p rings subs = record {
  tasks = ts;
  queue = q;
  ready = 2;
  levels = levels;
  rest = record {
    count = 11;
    granule = g;
    clock = record { 0 = now };
    flags = 1;
    alarms = rings;
    pool = p;
    queued = 1;
    subs = subs;
    messages = pad most_sent no_message [];
    sent = 0;
    mail = pad most_tasks no_mail [];
  };
}

-- the ready levels are 5 and 7
abbrev pub lit : ℕ
lit = 2 ^ 5 + 2 ^ 7

abbrev pub with_entries : List Task → Table
with_entries ts = table_of 10 ts (lined (no 2 ∷ no 1 ∷ [])) lit (asking 1) (ringing (now + longest)) shared

abbrev pub with_queue : List Task → List TaskNo → ℕ → Table
with_queue ts q levels = table_of 10 ts (lined q) levels (asking 1) (ringing (now + longest)) shared

abbrev pub with_pool : List Request → Table
with_pool p = table_of 10 entries (lined (no 2 ∷ no 1 ∷ [])) lit p (ringing (now + longest)) shared

abbrev pub with_subs : List Task → List Sub → Table
with_subs ts subs = table_of 10 ts (lined (no 2 ∷ no 1 ∷ [])) lit (asking 1) (ringing (now + longest)) subs

unfoldable pub sound : Table
sound = with_entries entries

-- ---- the broken ones: each is the sound one but for one field
-- a granule of 0 ms; an entry past the task count; a task that waits for what is no subprogram
unfoldable pub no_granule : Table
no_granule = table_of 0 entries (lined (no 2 ∷ no 1 ∷ [])) lit (asking 1) (ringing (now + longest)) shared

unfoldable pub entry_beyond : Table
entry_beyond = with_entries (put_at entries 12 (entry Dormant 0 0 0 nobody))

unfoldable pub waits_for_eight : Table
waits_for_eight = with_entries (put_at entries 8 (entry (AwaitSub (record { 0 = 8 })) 3 0 0 nobody))

-- a lower priority in front of a higher one; a task twice in the queue, another ready one of the same priority not
-- there
unfoldable pub out_of_order : Table
out_of_order = with_queue entries (no 1 ∷ no 2 ∷ []) lit

unfoldable pub twice_ready : Table
twice_ready = with_queue (put_at entries 1 (entry Ready 7 0 now (no 3))) (no 2 ∷ no 2 ∷ []) (2 ^ 7)

-- a pause until now; an alarm too far away
unfoldable pub pause_over : Table
pause_over = with_entries (put_at entries 4 (entry (Paused (record { 0 = now })) 3 0 0 nobody))

unfoldable pub alarm_far : Table
alarm_far = table_of 10 entries (lined (no 2 ∷ no 1 ∷ [])) lit (asking 1) (ringing (now + longest + 1)) shared

-- a last scheduled start after the clock
unfoldable pub late_start : Table
late_start = with_entries (put_at entries 1 (entry Ready 5 0 (now + 1) (no 3)))

-- a wait mask of 0; a wait whose condition is true
unfoldable pub no_mask : Table
no_mask = with_entries (put_at entries 5 (entry (Flags All 0) 3 0 0 nobody))

unfoldable pub wait_over : Table
wait_over = with_entries (put_at entries 5 (entry (Flags All 1) 3 0 0 nobody))

-- a request for the dormant task
unfoldable pub idle_target : Table
idle_target = with_pool (asking 7)

-- two runs name task 3; none does; the request's target is its own waiter
unfoldable pub named_twice : Table
named_twice = with_entries (put_at entries 2 (entry Ready 7 0 0 (no 3)))

unfoldable pub unnamed : Table
unnamed = with_entries (put_at entries 1 (entry Ready 5 0 now nobody))

unfoldable pub own_waiter : Table
own_waiter = with_pool (asking 6)

-- a dormant task with an argument
unfoldable pub sleep_talk : Table
sleep_talk = with_entries (put_at entries 7 (entry Dormant 0 1 0 nobody))

-- a free place of the pool that is not zero
unfoldable pub stray_place : Table
stray_place = with_pool (set (asking 1) 1 (record { target = nobody; priority = 0; argument = 1; start_waiter = nobody; end_waiter = nobody }))

-- a dormant holder; one who waits for a free one
unfoldable pub sleeping_holder : Table
sleeping_holder = with_subs entries (holding (held_by (no 7) (no 10 ∷ no 9 ∷ no 11 ∷ [])))

unfoldable pub nobody_inside : Table
nobody_inside = with_subs entries (holding (held_by nobody (no 10 ∷ no 9 ∷ no 11 ∷ [])))

-- a task twice in the line; a lower priority in front of a higher one; a free place of the line that is not zero; one
-- who waits and is not in the line
unfoldable pub twice_in_line : Table
twice_in_line = with_subs entries (holding (held_by (no 4) (no 10 ∷ no 9 ∷ no 9 ∷ no 11 ∷ [])))

unfoldable pub lower_first : Table
lower_first = with_subs entries (holding (held_by (no 4) (no 9 ∷ no 10 ∷ no 11 ∷ [])))

unfoldable pub stray_in_line : Table
stray_in_line = with_subs entries (holding (record { holder = no 4; line = lined (no 10 ∷ no 9 ∷ no 11 ∷ no 2 ∷ []); waiting = 3 }))

unfoldable pub left_out : Table
left_out = with_subs entries (holding (held_by (no 4) (no 10 ∷ no 9 ∷ [])))

-- the word with a bit too many, and with a bit missing
unfoldable pub wrong_light : Table
wrong_light = with_queue entries (no 2 ∷ no 1 ∷ []) (lit + 2 ^ 3)

unfoldable pub light_out : Table
light_out = with_queue entries (no 2 ∷ no 1 ∷ []) (2 ^ 5)

-- task 2, ready, has a message for 3 and one for 1, which is ready and has not asked; a table with other messages
abbrev pub mailed : ℕ → ℕ → ℕ → Message
mailed k s p = record { to = no k; sender = no s; priority = p; text = record { 0 = 7 } }

abbrev pub with_waiting : List Task → List Message → ℕ → Table
with_waiting ts ms n = with_rest (with_post (pad most_sent no_message ms) n (pad most_tasks no_mail []) sound.rest) (with_entries ts)

unfoldable pub sound_mail : Table
sound_mail = with_waiting entries (mailed 3 2 7 ∷ mailed 1 2 7 ∷ mailed 3 1 5 ∷ []) 3

-- a fitting message left waiting: 4 waits for one from 2, or from any; two messages out of order; a free place that is not
-- zero; a message from nobody
unfoldable pub left_waiting : Table
left_waiting = with_waiting (put_at entries 4 (entry (AwaitMessage (no 2)) 3 0 0 nobody)) (mailed 4 2 7 ∷ []) 1

unfoldable pub any_waiting : Table
any_waiting = with_waiting (put_at entries 4 (entry (AwaitMessage nobody) 3 0 0 nobody)) (mailed 1 2 7 ∷ mailed 4 1 5 ∷ []) 2

unfoldable pub late_letter : Table
late_letter = with_waiting entries (mailed 3 1 5 ∷ mailed 3 2 7 ∷ []) 2

unfoldable pub stray_letter : Table
stray_letter = with_waiting entries (mailed 3 2 7 ∷ []) 0

unfoldable pub from_nobody : Table
from_nobody = with_waiting entries (mailed 3 0 7 ∷ []) 1

-- a message in a dormant task's entry, and in one past the task count
abbrev pub mail_in : ℕ → Table
mail_in i = with_rest (with_post (pad most_sent no_message []) 0 (set (pad most_tasks no_mail []) i (record { sender = no 2; text = record { 0 = 7 } })) sound.rest) sound

unfoldable pub sleeper_mail : Table
sleeper_mail = mail_in 6

unfoldable pub mail_beyond : Table
mail_beyond = mail_in 11

-- ---- what the check finds of each
-- the twelve tests, in the order of the rules; refused, and by the test at place i alone
abbrev pub tests : Table → List Bool
tests t =
    numbers_right t.tasks t.rest
    ∷ order_right t
    ∷ times_right t.tasks t.rest
    ∷ started_right t.tasks t.rest
    ∷ masks_right t.tasks t.rest
    ∷ busy_right t.tasks t.rest
    ∷ waiters_right t.tasks t.rest
    ∷ dormant_right t.tasks t.rest
    ∷ pool_right t.rest
    ∷ subs_right t.tasks t.rest
    ∷ messages_right t.tasks t.rest
    ∷ levels_right t
    ∷ []

abbrev pub OnlyBy : ℕ → Table → Type 0
OnlyBy i t = (is_well_formed t ≡ false) × (tests t ≡ set (replicate 12 true) i false)

pub record Broken : Type 0 where
  pub kept : is_well_formed sound ≡ true
  pub kept-mail : is_well_formed sound_mail ≡ true
  pub numbers : OnlyBy 0 no_granule × OnlyBy 0 entry_beyond × OnlyBy 0 waits_for_eight × OnlyBy 0 from_nobody
  pub queue : OnlyBy 1 out_of_order × OnlyBy 1 twice_ready
  pub times : OnlyBy 2 pause_over × OnlyBy 2 alarm_far
  pub started : OnlyBy 3 late_start
  pub masks : OnlyBy 4 no_mask × OnlyBy 4 wait_over
  pub busy : OnlyBy 5 idle_target
  pub waiters : OnlyBy 6 named_twice × OnlyBy 6 unnamed × OnlyBy 6 own_waiter
  pub dormant : OnlyBy 7 sleep_talk × OnlyBy 7 sleeper_mail × OnlyBy 7 mail_beyond
  pub pool : OnlyBy 8 stray_place
  pub subprograms : OnlyBy 9 sleeping_holder × OnlyBy 9 nobody_inside × OnlyBy 9 twice_in_line × OnlyBy 9 lower_first × OnlyBy 9 stray_in_line × OnlyBy 9 left_out
  pub messages : OnlyBy 10 left_waiting × OnlyBy 10 any_waiting × OnlyBy 10 late_letter × OnlyBy 10 stray_letter
  pub levels : OnlyBy 11 wrong_light × OnlyBy 11 light_out
