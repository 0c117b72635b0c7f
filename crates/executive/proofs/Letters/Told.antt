-- No answer but that of a receive tells a sender or a text; and that one tells the first message that fits, if there is one.
use mathlib.Core.Path.{◌≡◌, refl, sym, ap, ◌∙◌}
use mathlib.Core.Logic.{◌≢◌}
use mathlib.Core.Bool.{Bool, true, false}
use mathlib.Core.List.{List}
use Prim.Native.Nat.{ℕ, ◌≤◌}
use borrow.Author.Tests.{eqb-true, eqb-false, eq-eqb, ne_eqb}
use lib.Dec.{eqb}
use lib.ListN.{length, get_or, get_or-eq_default}
use Rattle.records.specs.Firsts.{first_of}
use Rattle.records.specs.declared.Call.{Call}
use Rattle.records.specs.declared.Call.TheVariants as call
use Rattle.records.specs.Numbers.{Bytes}
use Rattle.records.specs.Kinds.{byte_of}
use Rattle.records.specs.Calls as calls
use Rattle.records.specs.Writing.{bytes_of}
use Rattle.records.proofs.Assured.{promises}
use Rattle.executive.specs.declared.Message.{Message}
use Rattle.executive.specs.declared.Table.{Table}
use Rattle.executive.specs.declared.Outcome.{Outcome}
use Rattle.executive.specs.Lists.{◌and◌}
use Rattle.executive.specs.Messages.{no_message, letters, first_fit}
use Rattle.executive.specs.Plans.{caller}
use Rattle.executive.specs.Sheet.{marks, marks_of}
use Rattle.executive.specs.Refusals.{call_in, refusals}
use Rattle.executive.specs.Step.{no_table, answer_of, has_v, accepted, refused, outcome_of, step_of}
use Rattle.executive.specs.Promises.MailLaw.{receives15, SaysNothing, fit_place}
use Rattle.executive.proofs.Lists.Tests.{false_not_true, and_true}
use Rattle.executive.proofs.step.StepIsPlan.{picked}
use Rattle.executive.proofs.step.FirstThatHolds.{step-number, allowed}
use Rattle.executive.proofs.Book.Counted.{was_read, first_byte}

call-says : (t : Table) (c : Call) → eqb (byte_of (calls.kind_of_call c)) 0x15 ≡ false → ((marks_of t c).sender.0 ≡ 0) × ((marks_of t c).text.0 ≡ 0)
unfolding marks_of
call-says t call.Terminate e = (refl, refl)
call-says t (call.Restart p n) e = (refl, refl)
call-says t (call.Pause u n) e = (refl, refl)
call-says t (call.CancelPause k) e = (refl, refl)
call-says t (call.StartIfDormant o k) e = (refl, refl)
call-says t (call.StartOrQueue o k a) e = (refl, refl)
call-says t (call.Flag o f) e = (refl, refl)
call-says t (call.Wait m mask) e = (refl, refl)
call-says t (call.Alarm u n f) e = (refl, refl)
call-says t call.Tick e = (refl, refl)
call-says t (call.Granule g) e = (refl, refl)
call-says t (call.Task p m) e = (refl, refl)
call-says t call.End e = (refl, refl)
call-says t (call.Enter m) e = (refl, refl)
call-says t (call.Exit m) e = (refl, refl)
call-says t (call.Send k x) e = (refl, refl)
call-says t (call.Receive s) e = false_not_true (sym e)

refused_says : (t : Table) (n : ℕ) (c : Call) → n ≢ 0 → SaysNothing (outcome_of t n c).answer
unfolding refused
refused_says t n c z =
    let x : Outcome = record { answer = no_table; table = t } in
    let y : Outcome = record { answer = answer_of n (marks false (has_v n) false) 0 t; table = t } in
    rw (ne_eqb n 0 z) (record {
      sender = picked (λ (o : Outcome). o.answer.sender.0) (eqb n 1) x y 0 refl refl;
      text = picked (λ (o : Outcome). o.answer.text.0) (eqb n 1) x y 0 refl refl;
    })

module _ (t : Table) (s : List ℕ) (e : (step_of t s).answer.number ≡ 0) where
  pub sender-answered : (step_of t s).answer.sender ≡ (marks_of t (call_in s)).sender
  unfolding step_of accepted
  sender-answered = rw (eq-eqb (first_of (refusals t s)) 0 (allowed t s e)) refl

  pub text-answered : (step_of t s).answer.text ≡ (marks_of t (call_in s)).text
  unfolding step_of accepted
  text-answered = rw (eq-eqb (first_of (refusals t s)) 0 (allowed t s e)) refl

refusal-says : (t : Table) (s : List ℕ) → first_of (refusals t s) ≢ 0 → SaysNothing (step_of t s).answer
unfolding step_of
refusal-says t s z = refused_says t (first_of (refusals t s)) (call_in s) z

pub none_told : (t : Table) (s : List ℕ) → Bytes s → receives15 t s ≡ false → SaysNothing (step_of t s).answer
none_told t s y r = go (eqb (step_of t s).answer.number 0) refl r
  where
    go : (b : Bool) → eqb (step_of t s).answer.number 0 ≡ b → b and eqb (get_or s 0 0) 0x15 ≡ false → SaysNothing (step_of t s).answer
    go true e r =
        let z : (step_of t s).answer.number ≡ 0 = eqb-true _ 0 e in
        let f : eqb (get_or s 0 0) 0x15 ≡ false = r in
        let m = call-says t (call_in s) (rw (first_byte t s z y) at f) in
        record { sender = rw (sender-answered t s z) m.0; text = rw (text-answered t s z) m.1 }
    go false e r = refusal-says t s (λ z. eqb-false _ 0 e (step-number t s ∙ z))

-- ---- an accepted receive tells the first message that fits; a blank one, zeros, where there is none
abbrev first_for : Table → ℕ → Message
first_for t n = get_or (letters t.rest) (first_fit (caller t).0 n (letters t.rest)) no_message

call-tells : (t : Table) (c : Call) → eqb (byte_of (calls.kind_of_call c)) 0x15 ≡ true
    → ((marks_of t c).sender ≡ (first_for t (get_or (bytes_of c) 1 0)).sender) × ((marks_of t c).text ≡ (first_for t (get_or (bytes_of c) 1 0)).text)
unfolding marks_of
call-tells t call.Terminate e = false_not_true e
call-tells t (call.Restart p n) e = false_not_true e
call-tells t (call.Pause u n) e = false_not_true e
call-tells t (call.CancelPause k) e = false_not_true e
call-tells t (call.StartIfDormant o k) e = false_not_true e
call-tells t (call.StartOrQueue o k a) e = false_not_true e
call-tells t (call.Flag o f) e = false_not_true e
call-tells t (call.Wait m mask) e = false_not_true e
call-tells t (call.Alarm u n f) e = false_not_true e
call-tells t call.Tick e = false_not_true e
call-tells t (call.Granule g) e = false_not_true e
call-tells t (call.Task p m) e = false_not_true e
call-tells t call.End e = false_not_true e
call-tells t (call.Enter m) e = false_not_true e
call-tells t (call.Exit m) e = false_not_true e
call-tells t (call.Send k x) e = false_not_true e
call-tells t (call.Receive s) e = (refl, refl)

pub receive-tells : (t : Table) (s : List ℕ) → Bytes s → receives15 t s ≡ true
    → ((step_of t s).answer.sender ≡ (get_or (letters t.rest) (fit_place t s) no_message).sender)
    × ((step_of t s).answer.text ≡ (get_or (letters t.rest) (fit_place t s) no_message).text)
receive-tells t s y r =
    let h = and_true (eqb (step_of t s).answer.number 0) _ r in
    let z : (step_of t s).answer.number ≡ 0 = eqb-true _ 0 h.0 in
    let g : get_or s 1 0 ≡ get_or (bytes_of (call_in s)) 1 0 = ap (λ (l : List ℕ). get_or l 1 0) (sym (promises.read_write s (call_in s) y (was_read t s z))) in
    let f : eqb (get_or s 0 0) 0x15 ≡ true = h.1 in
    let m = call-tells t (call_in s) (rw (first_byte t s z y) at f) in
    rw g (sender-answered t s z ∙ m.0, text-answered t s z ∙ m.1)

pub none_found : (t : Table) (s : List ℕ) → Bytes s → receives15 t s ≡ true → length (letters t.rest) ≤ fit_place t s
    → SaysNothing (step_of t s).answer
none_found t s y r h =
    let m = receive-tells t s y r in
    let e : get_or (letters t.rest) (fit_place t s) no_message ≡ no_message = get_or-eq_default (letters t.rest) no_message {n = fit_place t s} h in
    record { sender = rw (m.0, e) refl; text = rw (m.1, e) refl }
