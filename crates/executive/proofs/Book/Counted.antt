-- The steps that the book enters, told by records, answers and tables alone.
use mathlib.Core.Path.{◌≡◌, refl, sym, ap, ◌∙◌}
use mathlib.Core.Logic.{⊎_elim}
use mathlib.Core.Bool.{Bool, true, false, not, cond, ◌||◌}
use mathlib.Core.List.{List, [], ◌∷◌}
use Prim.Native.Nat.{ℕ}
use native.Mathlib.Omega.{arith}
use borrow.Author.Tests.{eqb-true, eqb-false, eq-eqb}
use lib.Dec.{eqb}
use lib.ListN.{length, get_or}
use Rattle.records.specs.Firsts.{first_of}
use Rattle.records.specs.declared.Kind.TheVariants as kind
use Rattle.records.specs.declared.Call.{Call}
use Rattle.records.specs.declared.Call.TheVariants as call
use Rattle.records.specs.Numbers.{Bytes}
use Rattle.records.specs.Kinds.{byte_of, length_of, is_call}
use Rattle.records.specs.Calls as calls
use Rattle.records.specs.Reading.{first_kind, read_of, read_number}
use Rattle.records.proofs.Assured.{promises}
use Rattle.executive.specs.declared.State.TheVariants.{Ready}
use Rattle.executive.specs.declared.Request.{Request}
use Rattle.executive.specs.declared.Table.{Table}
use Rattle.executive.specs.declared.Outcome.{Outcome}
use Rattle.executive.specs.Lists.{one, ◌and◌}
use Rattle.executive.specs.Pool.{requests, place_of}
use Rattle.executive.specs.Places.{task_at}
use Rattle.executive.specs.Plans.{caller, state_at, request_of}
use Rattle.executive.specs.States.{is_dormant}
use Rattle.executive.specs.WellFormed.{WellFormed}
use Rattle.executive.specs.Refusals.{kind_of_record, called_by, call_in, refusals}
use Rattle.executive.specs.Sheet.{marks_of}
use Rattle.executive.specs.Step.{accepted, step_of}
use Rattle.executive.specs.Promises.EveryStart.{Asked, Book, other, starts, waits, turn_of, turn_in, first_for, Agrees, asks05, begins?}
use Rattle.executive.proofs.Lists.Tests.{false_not_true}
use Rattle.executive.proofs.refusals.NothingRefuses.{first-none}
use Rattle.executive.proofs.step.FirstThatHolds.{allowed}
use Rattle.executive.proofs.Book.Lists.{agrees_first, FirstIs}
use Rattle.executive.proofs.Book.Step.{Ending, Does, step_does}
use Rattle.executive.proofs.Book.Written.{new_asked, new_begun}
use Rattle.std.specs.Prelude.{Ok, Err}
use Rattle.records.specs.declared.Refusal.{Refusal}
use Rattle.records.specs.Refusals.{Got}

not-false : (b : Bool) → not b ≡ false → b ≡ true
not-false true e = refl
not-false false e = false_not_true (sym e)

-- what is not refused is a call
call_got : (g : Got) → ((n : Refusal) → g ≡ Err n → ⊥) → g ≡ Ok (called_by g)
call_got (Ok c) h = refl
call_got (Err n) h = absurd (h n refl)

-- ---- an accepted record was read, and so its first byte is its call's
module _ (t : Table) (s : List ℕ) (e : (step_of t s).answer.number ≡ 0) where
  pub was_read : read_of s ≡ Ok (call_in s)
  unfolding refusals
  was_read =
      let a = first-none 1 _ _ (omega arith) (allowed t s e) in
      let b = first-none 3 (eqb (length s) 0) _ (omega arith) a.1 in
      let c = first-none 4 (not (is_call (kind_of_record s))) _ (omega arith) b.1 in
      let d = first-none 3 (not (eqb (length s) (length_of (kind_of_record s)))) _ (omega arith) c.1 in
      let k : first_kind s ≡ kind.Unknown → ⊥ = λ u. false_not_true (sym (ap is_call u) ∙ not-false (is_call (kind_of_record s)) c.0) in
      let l : length s ≡ length_of (kind_of_record s) = eqb-true _ _ (not-false (eqb (length s) (length_of (kind_of_record s))) d.0) in
      call_got (read_of s)
      (λ n r.
      ⊎_elim (λ x. ⊎_elim (λ z. eqb-false (length s) 0 b.0 z) (λ m. m.1 l) ((promises.three s).0 (ap read_number r ∙ x)))
      (λ x. k ((promises.four s).0 (ap read_number r ∙ x)).1) (promises.refuses s n r))

  pub first_byte : Bytes s → get_or s 0 0 ≡ byte_of (calls.kind_of_call (call_in s))
  first_byte b = ap (λ (l : List ℕ). get_or l 0 0) (sym (promises.read_write s (call_in s) b was_read))

  z-answered : (step_of t s).answer.z ≡ (marks_of t (call_in s)).z
  unfolding step_of accepted
  z-answered = rw (eq-eqb (first_of (refusals t s)) 0 (allowed t s e)) refl

-- ---- those asked for
call_asks : (t : Table) (i : ℕ) (c : Call) → one (eqb (byte_of (calls.kind_of_call c)) 0x05) ≡ length (new_asked i (turn_of t c))
unfolding turn_of
call_asks t i call.Terminate = refl
call_asks t i (call.Restart p n) = refl
call_asks t i (call.Pause u n) = refl
call_asks t i (call.CancelPause k) = refl
call_asks t i (call.StartIfDormant o k) = refl
call_asks t i (call.StartOrQueue o k a) = go (is_dormant (state_at t k))
  where
    go : (b : Bool) → 1 ≡ length (new_asked i (cond b (starts (request_of t o k a)) (waits (request_of t o k a))))
    go true = refl
    go false = refl
call_asks t i (call.Flag o f) = refl
call_asks t i (call.Wait m mask) = refl
call_asks t i (call.Alarm u n f) = refl
call_asks t i call.Tick = refl
call_asks t i (call.Granule g) = refl
call_asks t i (call.Task p m) = refl
call_asks t i call.End = refl
call_asks t i (call.Enter m) = refl
call_asks t i (call.Exit m) = refl
call_asks t i (call.Send k x) = refl
call_asks t i (call.Receive s) = refl

pub asks-told : (t : Table) (s : List ℕ) (i : ℕ) → Bytes s → one (asks05 t s (step_of t s)) ≡ length (new_asked i (turn_in t s))
unfolding turn_in
asks-told t s i y = go (eqb (step_of t s).answer.number 0) refl
  where
    go : (b : Bool) → eqb (step_of t s).answer.number 0 ≡ b
        → one (b and eqb (get_or s 0 0) 0x05) ≡ length (new_asked i (cond b (turn_of t (call_in s)) other))
    go true e = rw (first_byte t s (eqb-true _ 0 e) y) (call_asks t i (call_in s))
    go false e = refl

-- ---- those begun: at once where Z is 0, and by 00 where the caller is not dormant after it
end-begins : (t u : Table) (rs : List Request) (b : Book) → Ending rs u (caller t).0 → Agrees b.waiting rs
    → one (not (is_dormant (state_at u (caller t)))) ≡ length (first_for (caller t).0 b.waiting)
end-begins t u rs b d a = go (first_for (caller t).0 b.waiting) (agrees_first (caller t).0 b.waiting rs a)
  where
    go : (es : List Asked) → FirstIs es (place_of (caller t).0 rs) rs → one (not (is_dormant (state_at u (caller t)))) ≡ length es
    go [] f = rw (d.still f) refl
    go (e ∷ es) f =
        let x : (task_at u.tasks (caller t).0).state ≡ Ready = rw (d.named f.1) at (d.run f.1).ready in
        rw (f.0, x) refl

call-begins : (t u : Table) (rs : List Request) (i : ℕ) (b : Book) (c : Call) → Does rs u (turn_of t c) → Agrees b.waiting rs
    → one ((eqb (byte_of (calls.kind_of_call c)) 0x05 and not (marks_of t c).z) || (eqb (byte_of (calls.kind_of_call c)) 0x00 and not (is_dormant (state_at u (caller t)))))
    ≡ length (new_begun i (turn_of t c) b)
unfolding turn_of marks_of
call-begins t u rs i b call.Terminate d a = end-begins t u rs b d a
call-begins t u rs i b (call.Restart p n) d a = refl
call-begins t u rs i b (call.Pause x n) d a = refl
call-begins t u rs i b (call.CancelPause k) d a = refl
call-begins t u rs i b (call.StartIfDormant o k) d a = refl
call-begins t u rs i b (call.StartOrQueue o k x) d a = go (is_dormant (state_at t k))
  where
    go : (y : Bool) → one (not (not y) || false) ≡ length (new_begun i (cond y (starts (request_of t o k x)) (waits (request_of t o k x))) b)
    go true = refl
    go false = refl
call-begins t u rs i b (call.Flag o f) d a = refl
call-begins t u rs i b (call.Wait m mask) d a = refl
call-begins t u rs i b (call.Alarm x n f) d a = refl
call-begins t u rs i b call.Tick d a = refl
call-begins t u rs i b (call.Granule g) d a = refl
call-begins t u rs i b (call.Task p m) d a = refl
call-begins t u rs i b call.End d a = refl
call-begins t u rs i b (call.Enter m) d a = refl
call-begins t u rs i b (call.Exit m) d a = refl
call-begins t u rs i b (call.Send k x) d a = refl
call-begins t u rs i b (call.Receive s) d a = refl

pub begins-told : (t : Table) (s : List ℕ) (i : ℕ) (b : Book) → WellFormed t → Bytes s → Agrees b.waiting (requests t.rest)
    → one (begins? t s (step_of t s)) ≡ length (new_begun i (turn_in t s) b)
unfolding turn_in
begins-told t s i b w y a = go (eqb o.answer.number 0) refl (step_does t s w y)
  where
    o : Outcome
    o = step_of t s

    go : (x : Bool) → eqb o.answer.number 0 ≡ x → Does (requests t.rest) o.table (cond x (turn_of t (call_in s)) other)
        → one (((x and eqb (get_or s 0 0) 0x05) and not o.answer.z) || ((x and eqb (get_or s 0 0) 0x00) and not (is_dormant (state_at o.table (caller t)))))
        ≡ length (new_begun i (cond x (turn_of t (call_in s)) other) b)
    go true e d =
        let n : o.answer.number ≡ 0 = eqb-true _ 0 e in
        rw (first_byte t s n y, z-answered t s n) (call-begins t o.table (requests t.rest) i b (call_in s) d a)
    go false e d = refl
