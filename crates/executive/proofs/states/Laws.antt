-- Laws of states: a state is told by its kind, its time, its mask and the number that it waits for; what a state that
-- waits for a time, or for flags, is not.
use Prim.Native.Nat.{ℕ, ◌+◌}
use mathlib.Core.Path.{◌≡◌, refl, sym, ap, subst, ◌∙◌}
use mathlib.Core.Bool.{Bool, true, false, ◌||◌, ◌&&◌}
use native.Mathlib.Omega.{arith}
use borrow.Author.Tests.{eqb-true}
use lib.Dec.{eqb}
use Rattle.records.specs.declared.SubNo.{SubNo}
use Rattle.executive.specs.declared.Mode.{Mode}
use Rattle.executive.specs.declared.Mode.TheVariants.{Any, All}
use Rattle.executive.specs.declared.State.{State}
use Rattle.executive.specs.declared.State.TheVariants.{Dormant, Ready, Paused, Due, Flags, AwaitStart, AwaitEnd, AwaitSub, AwaitMessage}
use Rattle.executive.specs.Lists.{one}
use Rattle.executive.specs.States.{dormant, ready, paused, due, await_any, await_all, await_start, await_end, await_message, await_sub, state_kind, time_of, mask_of, awaited_of, state_of}
use Rattle.executive.specs.States.{is_of, is, is_as, is_dormant, is_ready, has_time, has_mask, wait_mode, waits_for, StatesTold}
use Rattle.executive.proofs.Lists.Tests.{eqb_self}
use Rattle.executive.proofs.queue.Law.{one_true}

-- ---- the four tell the state
pub state-back : (s : State) → state_of (state_kind s) (time_of s) (mask_of s) (awaited_of s) ≡ s
unfolding state_of
state-back Dormant = refl
state-back Ready = refl
state-back (Paused at) = refl
state-back (Due at) = refl
state-back (Flags Any mask) = refl
state-back (Flags All mask) = refl
state-back AwaitStart = refl
state-back AwaitEnd = refl
state-back (AwaitSub m) = refl
state-back (AwaitMessage k) = refl

told : (s : State) (n : ℕ) → is_of n s ≡ true → s ≡ state_of n (time_of s) (mask_of s) (awaited_of s)
told s n e = sym (state-back s) ∙ ap (λ (k : ℕ). state_of k (time_of s) (mask_of s) (awaited_of s)) (sym (eqb-true n (state_kind s) e))

pub dormant-is : (s : State) → is_dormant s ≡ true → s ≡ Dormant
unfolding state_of
dormant-is s e = told s dormant e

pub dormant-named : (s : State) → is dormant s ≡ 1 → s ≡ Dormant
dormant-named s e = dormant-is s (one_true (is_dormant s) e)

pub dormant-kind : (s : State) → s ≡ Dormant → is dormant s ≡ 1
dormant-kind s e = ap (is dormant) e

pub message_is : (s : State) → is_of await_message s ≡ true → s ≡ AwaitMessage (record { 0 = awaited_of s })
unfolding state_of
message_is s e = told s await_message e

pub ready-named : (s : State) → is ready s ≡ 1 → s ≡ Ready
unfolding state_of
ready-named s e = told s ready (one_true (is_of ready s) e)

-- one who waits for subprogram m
pub sub-named : (m : SubNo) (s : State) → one (waits_for m.0 s) ≡ 1 → s ≡ AwaitSub m
unfolding state_of
sub-named m s e = go (is_of await_sub s) (eqb m.0 (awaited_of s)) refl refl e
  where
    go : (a b : Bool) → is_of await_sub s ≡ a → eqb m.0 (awaited_of s) ≡ b → one (a && b) ≡ 1 → s ≡ AwaitSub m
    go true true x y z = told s await_sub x ∙ ap (λ (n : ℕ). AwaitSub (record { 0 = n })) (sym (eqb-true m.0 (awaited_of s) y))
    go true false x y z = absurd (omega arith)
    go false b x y z = absurd (omega arith)

pub sub-kind : (m : SubNo) (s : State) → s ≡ AwaitSub m → one (waits_for m.0 s) ≡ 1
sub-kind m s e = rw e (ap one (eqb_self m.0))

pub ready-kind : (s : State) → s ≡ Ready → is ready s ≡ 1
ready-kind s e = ap (is ready) e

-- a ready task waits for no number
pub ready_as : (s : State) → is_as ready 0 s ≡ is_ready s
unfolding state_of
ready_as s = go (is_ready s) refl
  where
    go : (b : Bool) → is_ready s ≡ b → b && eqb 0 (awaited_of s) ≡ b
    go true e = ap (λ (x : State). eqb 0 (awaited_of x)) (told s ready e)
    go false e = refl

-- ---- what holds of a kind holds of every state of that kind; of two kinds, of every state of one of them
pub of-kind : (P : ℕ → Type 0) (n : ℕ) → P n → (s : State) → is_of n s ≡ true → P (state_kind s)
of-kind P n x s e = subst P (eqb-true n (state_kind s) e) x

of-kinds : (P : ℕ → Type 0) (m n : ℕ) → P m → P n → (s : State) → is_of m s || is_of n s ≡ true → P (state_kind s)
of-kinds P m n x y s = go (is_of m s) refl
  where
    go : (b : Bool) → is_of m s ≡ b → b || is_of n s ≡ true → P (state_kind s)
    go true f e = of-kind P m x s f
    go false f e = of-kind P n y s e

-- the rules count the ready and the dormant tasks and those that wait for a start, an end, a subprogram or a message
abbrev pub counted : ℕ → ℕ
counted k = one (eqb ready k) + one (eqb dormant k) + one (eqb await_start k) + one (eqb await_end k) + one (eqb await_sub k) + one (eqb await_message k)

pub time-waits : (s : State) → has_time s ≡ true → counted (state_kind s) ≡ 0
time-waits s e = of-kinds (λ (k : ℕ). counted k ≡ 0) paused due refl refl s e

pub mask-waits : (s : State) → has_mask s ≡ true → counted (state_kind s) ≡ 0
mask-waits s e = of-kinds (λ (k : ℕ). counted k ≡ 0) await_any await_all refl refl s e

pub mask-no-time : (s : State) → has_mask s ≡ true → has_time s ≡ false
mask-no-time s e = of-kinds (λ (k : ℕ). eqb paused k || eqb due k ≡ false) await_any await_all refl refl s e

pub due-time : (s : State) → is_of due s ≡ true → has_time s ≡ true
due-time s e = of-kind (λ (k : ℕ). eqb paused k || eqb due k ≡ true) due refl s e

-- ---- a wait for flags, for any or all of a mask
pub flags-mask : (m : Mode) (mask : ℕ) → has_mask (Flags m mask) ≡ true
flags-mask Any mask = refl
flags-mask All mask = refl

pub flags_mode : (m : Mode) (mask : ℕ) → wait_mode (Flags m mask) ≡ m
flags_mode Any mask = refl
flags_mode All mask = refl

-- ---- the promise
pub states-told : StatesTold
states-told = record {
  back = state-back;
  kind-determined = λ s x y e f. e ∙ sym f;
  time-determined = λ s x y e f. e ∙ sym f;
  mask-determined = λ s x y e f. e ∙ sym f;
  awaited-determined = λ s x y e f. e ∙ sym f;
}
