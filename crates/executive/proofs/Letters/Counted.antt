-- The steps that the book of letters enters, told by records and answers alone.
use mathlib.Core.Path.{◌≡◌, refl, sym}
use mathlib.Core.Bool.{Bool, true, false, cond}
use mathlib.Core.List.{List, [], ◌∷◌, ◌++◌, append-nil}
use Prim.Native.Nat.{ℕ}
use borrow.Author.Tests.{eqb-true}
use lib.Dec.{eqb}
use lib.ListN.{length, get_or}
use Rattle.records.specs.declared.Call.{Call}
use Rattle.records.specs.declared.Call.TheVariants as call
use Rattle.records.specs.Numbers.{Bytes}
use Rattle.records.specs.Kinds.{byte_of}
use Rattle.records.specs.Calls as calls
use Rattle.executive.specs.declared.Table.{Table}
use Rattle.executive.specs.Lists.{one, ◌and◌}
use Rattle.executive.specs.States.{takes}
use Rattle.executive.specs.Plans.{caller, state_at, letter_of}
use Rattle.executive.specs.Refusals.{call_in}
use Rattle.executive.specs.Step.{step_of}
use Rattle.executive.specs.Letters.{Letter, letter, Letters, Passage, elsewhere, delivers, keeps, hands, passage_of, passage_in, entered}
use Rattle.executive.specs.Promises.MailLaw.{sends14}
use Rattle.executive.proofs.Book.Counted.{first_byte}

-- what a step adds to those accepted
abbrev pub new_posted : ℕ → Passage → List Letter
new_posted i elsewhere = []
new_posted i (delivers m) = letter i m ∷ []
new_posted i (keeps m) = letter i m ∷ []
new_posted i (hands k s) = []

pub adds-posted : (i : ℕ) (x : Passage) (b : Letters) → (entered i x b).posted ≡ b.posted ++ new_posted i x
unfolding entered
adds-posted i elsewhere b = sym (append-nil b.posted)
adds-posted i (delivers m) b = refl
adds-posted i (keeps m) b = refl
adds-posted i (hands k s) b = sym (append-nil b.posted)

call_sends : (t : Table) (i : ℕ) (c : Call) → one (eqb (byte_of (calls.kind_of_call c)) 0x14) ≡ length (new_posted i (passage_of t c))
unfolding passage_of
call_sends t i call.Terminate = refl
call_sends t i (call.Restart p n) = refl
call_sends t i (call.Pause u n) = refl
call_sends t i (call.CancelPause k) = refl
call_sends t i (call.StartIfDormant o k) = refl
call_sends t i (call.StartOrQueue o k a) = refl
call_sends t i (call.Flag o f) = refl
call_sends t i (call.Wait m mask) = refl
call_sends t i (call.Alarm u n f) = refl
call_sends t i call.Tick = refl
call_sends t i (call.Granule g) = refl
call_sends t i (call.Task p m) = refl
call_sends t i call.End = refl
call_sends t i (call.Enter m) = refl
call_sends t i (call.Exit m) = refl
call_sends t i (call.Send k x) = go (takes (caller t).0 (state_at t k))
  where
    go : (b : Bool) → 1 ≡ length (new_posted i (cond b (delivers (letter_of t k x)) (keeps (letter_of t k x))))
    go true = refl
    go false = refl
call_sends t i (call.Receive s) = refl

pub sends_told : (t : Table) (s : List ℕ) (i : ℕ) → Bytes s → one (sends14 t s (step_of t s)) ≡ length (new_posted i (passage_in t s))
unfolding passage_in
sends_told t s i y = go (eqb (step_of t s).answer.number 0) refl
  where
    go : (b : Bool) → eqb (step_of t s).answer.number 0 ≡ b
        → one (b and eqb (get_or s 0 0) 0x14) ≡ length (new_posted i (cond b (passage_of t (call_in s)) elsewhere))
    go true e = rw (first_byte t s (eqb-true _ 0 e) y) (call_sends t i (call_in s))
    go false e = refl
