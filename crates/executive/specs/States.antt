-- What a task's state is and holds: its kind, its time, its mask and the number that it waits for. Only these, and
-- `state_of` which puts a state together again, name each state; all else that is said of a state is said by them.
use Rattle.std.specs.Prelude.{ℕ, ◌≡◌, Bool, ◌||◌, ◌&&◌, cond, eqb}
use Rattle.executive.specs.declared.Millis.{Millis}
use Rattle.executive.specs.declared.Mode.{Mode}
use Rattle.executive.specs.declared.Mode.TheVariants.{Any, All}
use Rattle.executive.specs.declared.State.{State}
use Rattle.executive.specs.declared.State.TheVariants.{Dormant, Ready, Paused, Due, Flags, AwaitStart, AwaitEnd, AwaitSub, AwaitMessage}
use Rattle.executive.specs.Lists.{one}
use Rattle.executive.specs.Places.{never}

-- ---- the kinds of state, numbered: the check goes by these numbers, and a table's image holds them
abbrev pub dormant : ℕ
dormant = 0

abbrev pub ready : ℕ
ready = 1

abbrev pub paused : ℕ
paused = 2

abbrev pub due : ℕ
due = 3

abbrev pub await_any : ℕ
await_any = 4

abbrev pub await_all : ℕ
await_all = 5

abbrev pub await_start : ℕ
await_start = 6

abbrev pub await_end : ℕ
await_end = 7

abbrev pub await_sub : ℕ
await_sub = 8

abbrev pub await_message : ℕ
await_message = 9

abbrev pub state_kind : State → ℕ
state_kind Dormant = dormant
state_kind Ready = ready
state_kind (Paused at) = paused
state_kind (Due at) = due
state_kind (Flags Any mask) = await_any
state_kind (Flags All mask) = await_all
state_kind AwaitStart = await_start
state_kind AwaitEnd = await_end
state_kind (AwaitSub m) = await_sub
state_kind (AwaitMessage k) = await_message

-- ---- the time until which it waits, and the flags for which it waits; 0 where it holds none
abbrev pub time_of : State → Millis
time_of Dormant = never
time_of Ready = never
time_of (Paused at) = at
time_of (Due at) = at
time_of (Flags m mask) = never
time_of AwaitStart = never
time_of AwaitEnd = never
time_of (AwaitSub m) = never
time_of (AwaitMessage k) = never

abbrev pub mask_of : State → ℕ
mask_of Dormant = 0
mask_of Ready = 0
mask_of (Paused at) = 0
mask_of (Due at) = 0
mask_of (Flags m mask) = mask
mask_of AwaitStart = 0
mask_of AwaitEnd = 0
mask_of (AwaitSub m) = 0
mask_of (AwaitMessage k) = 0

-- ---- the number of what it waits for: the subprogram's, or the sender's of a message, 0 for any; 0 where it waits for
-- neither
abbrev pub awaited_of : State → ℕ
awaited_of Dormant = 0
awaited_of Ready = 0
awaited_of (Paused at) = 0
awaited_of (Due at) = 0
awaited_of (Flags m mask) = 0
awaited_of AwaitStart = 0
awaited_of AwaitEnd = 0
awaited_of (AwaitSub m) = m.0
awaited_of (AwaitMessage k) = k.0

-- ---- the state of a kind, a time, a mask and a number; what is no kind is a wait for any flag of no mask, which no
-- well-formed table holds
unfoldable pub state_of : ℕ → Millis → ℕ → ℕ → State
state_of kind time mask number =
    cond (eqb kind dormant) Dormant
    (cond (eqb kind ready) Ready
    (cond (eqb kind paused) (Paused time)
    (cond (eqb kind due) (Due time)
    (cond (eqb kind await_any) (Flags Any mask)
    (cond (eqb kind await_all) (Flags All mask)
    (cond (eqb kind await_start) AwaitStart
    (cond (eqb kind await_end) AwaitEnd
    (cond (eqb kind await_sub) (AwaitSub (record { 0 = number }))
    (cond (eqb kind await_message) (AwaitMessage (record { 0 = number }))
    (Flags Any 0))))))))))

-- ---- whether a state is of kind n; the same as a count, 1 where it is, else 0
abbrev pub is_of : ℕ → State → Bool
is_of n s = eqb n (state_kind s)

abbrev pub is : ℕ → State → ℕ
is n s = one (is_of n s)

abbrev pub is_dormant : State → Bool
is_dormant s = is_of dormant s

abbrev pub is_ready : State → Bool
is_ready s = is_of ready s

-- one that is due to restart is not paused
abbrev pub is_paused : State → Bool
is_paused s = is_of paused s

-- a paused and a due task have a time
abbrev pub has_time : State → Bool
has_time s = is_of paused s || is_of due s

-- whether a state is of kind n and waits for number m; whether a task waits for subprogram m
abbrev pub is_as : ℕ → ℕ → State → Bool
is_as n m s = is_of n s && eqb m (awaited_of s)

abbrev pub waits_for : ℕ → State → Bool
waits_for m s = is_as await_sub m s

-- whether one who waits for a message from number n, 0 for any, takes one from sender c; whether a task takes it
abbrev pub takes_from : ℕ → ℕ → Bool
takes_from n c = eqb n 0 || eqb n c

abbrev pub takes : ℕ → State → Bool
takes c s = is_of await_message s && takes_from (awaited_of s) c

-- a task that waits for flags has a mask, and waits for any or for all of it
abbrev pub has_mask : State → Bool
has_mask s = is_of await_any s || is_of await_all s

abbrev pub wait_mode : State → Mode
wait_mode s = cond (is_of await_all s) All Any

-- ---- the contracts: r is the state's kind, its time, its mask, the number that it waits for
abbrev pub KindIs : State → ℕ → Type 0
KindIs s r = r ≡ state_kind s

abbrev pub TimeIs : State → Millis → Type 0
TimeIs s r = r ≡ time_of s

abbrev pub MaskIs : State → ℕ → Type 0
MaskIs s r = r ≡ mask_of s

abbrev pub AwaitedIs : State → ℕ → Type 0
AwaitedIs s r = r ≡ awaited_of s

-- the four tell the state, and there is one answer each
pub record StatesTold : Type 0 where
  pub back : (s : State) → state_of (state_kind s) (time_of s) (mask_of s) (awaited_of s) ≡ s
  pub kind-determined : (s : State) (x y : ℕ) → KindIs s x → KindIs s y → x ≡ y
  pub time-determined : (s : State) (x y : Millis) → TimeIs s x → TimeIs s y → x ≡ y
  pub mask-determined : (s : State) (x y : ℕ) → MaskIs s x → MaskIs s y → x ≡ y
  pub awaited-determined : (s : State) (x y : ℕ) → AwaitedIs s x → AwaitedIs s y → x ≡ y
