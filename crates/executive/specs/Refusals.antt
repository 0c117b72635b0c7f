-- The numbers an answer can carry (docs/CALLS.md, 6): one list, in its order, of each number and when it is given, read
-- off the sheet. The first whose condition holds is the answer's.
use Rattle.std.specs.Prelude.{ℕ, ◌≡◌, Bool, not, List, [], ◌∷◌, eqb, length, get_or, Ok, Err}
use Rattle.records.specs.Firsts.{Refusal, when}
use Rattle.records.specs.declared.TaskNo.{TaskNo}
use Rattle.records.specs.declared.Kind.{Kind}
use Rattle.records.specs.declared.Call.{Call}
use Rattle.records.specs.declared.Call.TheVariants as call
use Rattle.records.specs.Kinds.{kind_of, length_of, is_call}
use Rattle.records.specs.Reading.{read_of}
use Rattle.executive.specs.declared.Task.{Task}
use Rattle.executive.specs.declared.Rest.{Rest}
use Rattle.executive.specs.declared.Table.{Table}
use Rattle.executive.specs.Lists.{◌and◌}
use Rattle.executive.specs.Check.{is_well_formed}
use Rattle.executive.specs.Sheet.{sheet, rule_of}
use Rattle.records.specs.Refusals.{Got}

-- ---- the record: 4 where its first byte is no carried kind, and as a call also 40 to 42
abbrev pub kind_of_record : List ℕ → Kind
kind_of_record s = kind_of (get_or s 0 0)

-- the call that a record holds; what stands for one that holds none is never looked at
abbrev pub called_by : Got → Call
called_by (Ok c) = c
called_by (Err n) = call.End

abbrev pub call_in : List ℕ → Call
call_in s = called_by (read_of s)

-- ---- 5: a call, not a tick, and nobody is active
abbrev pub is_tick : Table → Call → Bool
is_tick t c = (rule_of t c).tick

unfoldable pub nobody_active : Table → Call → Bool
nobody_active t c = not (is_tick t c) and eqb t.ready 0

-- the same for the code, which knows the caller: whatever the tasks and the rest
abbrev pub Idles : TaskNo → Call → Bool → Type 0
Idles k c b = (ts : List Task) (r : Rest) → b ≡ (not (sheet ts r k c).tick and eqb k.0 0)

-- ---- 6: a number in the body is out of range
unfoldable pub bad_body : Table → Call → Bool
bad_body t c = (rule_of t c).body

-- ---- 13: 06 of a subprogram that the caller holds; 14: 07 of one that it does not hold; 15: 00 or 01 while it holds any
unfoldable pub holds_it : Table → Call → Bool
holds_it t c = (rule_of t c).inside

unfoldable pub holds_not : Table → Call → Bool
holds_not t c = (rule_of t c).outside

unfoldable pub holds_any : Table → Call → Bool
holds_any t c = (rule_of t c).holding

-- ---- 7: 05 names its caller, with bit 6 or 5
unfoldable pub names_caller : Table → Call → Bool
names_caller t c = (rule_of t c).itself

-- ---- 9: 0B, and the flag's alarm is running
unfoldable pub alarm_running : Table → Call → Bool
alarm_running t c = (rule_of t c).running

-- ---- 8: 05, target busy, 32 requests queued in all
unfoldable pub pool_full : Table → Call → Bool
pool_full t c = (rule_of t c).full

-- ---- 16: 14, the message would have to wait, 32 wait
unfoldable pub mail_full : Table → Call → Bool
mail_full t c = (rule_of t c).crowded

-- ---- 10: a tick would carry the clock past 2^40
unfoldable pub ends_time : Table → Call → Bool
ends_time t c = (rule_of t c).late

-- ---- the list, in its order
-- what can be refused of a call that was read
abbrev pub call_refusals : Table → Call → List Refusal
call_refusals t c =
    when 5 (nobody_active t c)
    ∷ when 6 (bad_body t c)
    ∷ when 13 (holds_it t c)
    ∷ when 14 (holds_not t c)
    ∷ when 15 (holds_any t c)
    ∷ when 7 (names_caller t c)
    ∷ when 9 (alarm_running t c)
    ∷ when 8 (pool_full t c)
    ∷ when 16 (mail_full t c)
    ∷ when 10 (ends_time t c)
    ∷ []

unfoldable pub refusals : Table → List ℕ → List Refusal
refusals t s =
    when 1 (not (is_well_formed t))
    ∷ when 3 (eqb (length s) 0)
    ∷ when 4 (not (is_call (kind_of_record s)))
    ∷ when 3 (not (eqb (length s) (length_of (kind_of_record s))))
    ∷ call_refusals t (call_in s)
