-- The numbers an answer can carry, a second time, in words (docs/CALLS.md, 6): propositions where `refusals` has tests,
-- bits as bits. A step's answer has the number of the first of these cases that holds.
use Rattle.std.specs.Prelude.{ℕ, ◌+◌, ◌/◌, ◌%◌, ◌^◌, ◌≤◌, ◌<◌, ◌≡◌, ◌≢◌, ◌⊎◌, List, [], ◌∷◌, length, get_or}
use Rattle.records.specs.declared.TaskNo.{TaskNo}
use Rattle.records.specs.declared.FlagNo.{FlagNo}
use Rattle.records.specs.declared.SubNo.{SubNo}
use Rattle.records.specs.declared.Text.{Text}
use Rattle.records.specs.declared.Kind.{Kind}
use Rattle.records.specs.declared.Kind.TheVariants as kind
use Rattle.records.specs.declared.Call.{Call}
use Rattle.records.specs.declared.Call.TheVariants as call
use Rattle.records.specs.Kinds.{length_of}
use Rattle.executive.specs.declared.State.TheVariants.{Dormant, AwaitMessage}
use Rattle.executive.specs.declared.Table.{Table}
use Rattle.executive.specs.Numbers.{last_unit, last_sub, most_queued, most_sent, end_of_time}
use Rattle.executive.specs.Places.{nobody, never}
use Rattle.executive.specs.Subprograms.{sub_at}
use Rattle.executive.specs.Plans.{caller, state_at}
use Rattle.executive.specs.WellFormed.{WellFormed}
use Rattle.executive.specs.Refusals.{kind_of_record, call_in}

-- bit i of a byte is set
abbrev pub Bit : ℕ → ℕ → Type 0
Bit i x = x / 2 ^ i % 2 ≡ 1

-- ---- 4: no carried kind; as a call, also 40 to 42
abbrev pub NoCall : Kind → Type 0
NoCall k = (k ≡ kind.Unknown) ⊎ ((k ≡ kind.Granule) ⊎ ((k ≡ kind.Task) ⊎ (k ≡ kind.End)))

-- ---- 6: task not 1 to the task count; flag over 31; unit over 5 in 02 or 0B; operation over 2; mode over 1; mask 0;
-- in 01 both bits 7 and 6 (02); in 04 any of bits 6..4; in 05 both bits 6 and 5; subprogram over 7 in 06 or 07, in
-- 15 a sender over the task count (02)
abbrev pub NoTask : Table → TaskNo → Type 0
NoTask t k = (k.0 ≡ 0) ⊎ (t.rest.count < k.0)

abbrev pub BadBody : Table → Call → Type 0
BadBody t call.Terminate = ⊥
BadBody t (call.Restart p n) = Bit 7 p × Bit 6 p
BadBody t (call.Pause u n) = last_unit < u
BadBody t (call.CancelPause k) = NoTask t k
BadBody t (call.StartIfDormant o k) = NoTask t k ⊎ (Bit 6 o ⊎ (Bit 5 o ⊎ Bit 4 o))
BadBody t (call.StartOrQueue o k a) = NoTask t k ⊎ (Bit 6 o × Bit 5 o)
BadBody t (call.Flag o f) = (31 < f.0) ⊎ (2 < o)
BadBody t (call.Wait m mask) = (1 < m) ⊎ (mask ≡ 0)
BadBody t (call.Alarm u n f) = (last_unit < u) ⊎ (31 < f.0)
BadBody t call.Tick = ⊥
BadBody t (call.Granule g) = ⊥
BadBody t (call.Task p m) = ⊥
BadBody t call.End = ⊥
BadBody t (call.Enter m) = last_sub < m.0
BadBody t (call.Exit m) = last_sub < m.0
BadBody t (call.Send k x) = NoTask t k
BadBody t (call.Receive k) = t.rest.count < k.0

-- ---- 13 to 15 (02): the call is a 06 or a 07 of which something is said; a 00 or a 01
pub record IsSub (kind : SubNo → Call) (P : SubNo → Type 0) (c : Call) : Type 0 where
  pub subprogram : SubNo
  pub call : c ≡ kind subprogram
  pub said : P subprogram

pub record IsRestart (c : Call) : Type 0 where
  pub parameter : ℕ
  pub count : ℕ
  pub call : c ≡ call.Restart parameter count

-- the caller holds subprogram m
abbrev pub Holds : Table → ℕ → Type 0
Holds t m = (caller t).0 ≡ (sub_at t.rest m).holder.0

-- 06 of one that the caller holds; 07 of one that it does not hold
abbrev pub HoldsIt : Table → Call → Type 0
HoldsIt t = IsSub (λ m. call.Enter m) (λ m. Holds t m.0)

abbrev pub HoldsNot : Table → Call → Type 0
HoldsNot t = IsSub (λ m. call.Exit m) (λ m. Holds t m.0 → ⊥)

-- 00 or 01 while it holds one of them
pub record HoldsOne (t : Table) : Type 0 where
  pub number : ℕ
  pub there : number < length t.rest.subs
  pub held : Holds t number

abbrev pub HoldsAny : Table → Call → Type 0
HoldsAny t c = ((c ≡ call.Terminate) ⊎ IsRestart c) × HoldsOne t

-- ---- 7 to 9: the call is a 05, or a 0B, of which something is said
pub record IsQueue (P : ℕ → TaskNo → Type 0) (c : Call) : Type 0 where
  pub option : ℕ
  pub target : TaskNo
  pub argument : ℕ
  pub call : c ≡ call.StartOrQueue option target argument
  pub said : P option target

pub record IsAlarm (P : FlagNo → Type 0) (c : Call) : Type 0 where
  pub unit : ℕ
  pub count : ℕ
  pub flag : FlagNo
  pub call : c ≡ call.Alarm unit count flag
  pub said : P flag

-- 05 names its caller, with bit 6 or 5
abbrev pub NamesCaller : Table → Call → Type 0
NamesCaller t = IsQueue (λ o k. (k.0 ≡ (caller t).0) × (Bit 6 o ⊎ Bit 5 o))

-- 0B, and the flag's alarm is running
abbrev pub AlarmRunning : Table → Call → Type 0
AlarmRunning t = IsAlarm (λ f. (get_or t.rest.alarms f.0 never).0 ≢ 0)

-- 05, target busy, 32 requests queued in all
abbrev pub PoolFull : Table → Call → Type 0
PoolFull t = IsQueue (λ o k. (state_at t k ≢ Dormant) × (most_queued ≤ t.rest.queued))

-- ---- 16 (02): the call is a 14 of which something is said
pub record IsSend (P : TaskNo → Type 0) (c : Call) : Type 0 where
  pub addressee : TaskNo
  pub text : Text
  pub call : c ≡ call.Send addressee text
  pub said : P addressee

-- task k waits for a message from the caller, or from any task
abbrev pub AwaitsCaller : Table → TaskNo → Type 0
AwaitsCaller t k = (state_at t k ≡ AwaitMessage (caller t)) ⊎ (state_at t k ≡ AwaitMessage nobody)

-- 14, the message would have to wait, 32 wait
abbrev pub MailFull : Table → Call → Type 0
MailFull t = IsSend (λ k. (AwaitsCaller t k → ⊥) × (most_sent ≤ t.rest.sent))

-- ---- the cases, in their order: a number, and when it is given
pub record Case : Type 1 where
  pub number : ℕ
  pub holds : Type 0

abbrev pub case : ℕ → Type 0 → Case
case n P = record { number = n; holds = P }

abbrev pub cases : Table → List ℕ → List Case
cases t s =
    case 1 (WellFormed t → ⊥)
    ∷ case 3 (length s ≡ 0)
    ∷ case 4 (NoCall (kind_of_record s))
    ∷ case 3 (length s ≢ length_of (kind_of_record s))
    ∷ case 5 ((call_in s ≢ call.Tick) × (t.ready ≡ 0))
    ∷ case 6 (BadBody t (call_in s))
    ∷ case 13 (HoldsIt t (call_in s))
    ∷ case 14 (HoldsNot t (call_in s))
    ∷ case 15 (HoldsAny t (call_in s))
    ∷ case 7 (NamesCaller t (call_in s))
    ∷ case 9 (AlarmRunning t (call_in s))
    ∷ case 8 (PoolFull t (call_in s))
    ∷ case 16 (MailFull t (call_in s))
    ∷ case 10 ((call_in s ≡ call.Tick) × (end_of_time < t.rest.clock.0 + t.rest.granule))
    ∷ []

-- n is the number of the first case that holds, and 0 if none does
abbrev pub First : ℕ → List Case → Type 0
First n [] = n ≡ 0
First n (c ∷ cs) = (c.holds × (n ≡ c.number)) ⊎ ((c.holds → ⊥) × First n cs)

abbrev pub Given : Table → List ℕ → ℕ → Type 0
Given t s n = First n (cases t s)
