-- What stands in a task's entry stands until an accepted 00, 01 or 15 of that task, or a send that delivers to it.
use mathlib.Core.Path.{◌≡◌, refl, sym, ap, ◌∙◌}
use mathlib.Core.Bool.{Bool, true, false, cond, ◌||◌}
use mathlib.Core.List.{List, [], ◌∷◌}
use Prim.Native.Nat.{ℕ, zero, suc}
use borrow.Author.Tests.{eqb-true, eqb-false}
use lib.Dec.{ltb, eqb}
use lib.ListN.{length, get_or, set}
use Rattle.records.specs.declared.TaskNo.{TaskNo}
use Rattle.records.specs.declared.Text.{Text}
use Rattle.records.specs.declared.Call.{Call}
use Rattle.records.specs.declared.Call.TheVariants as call
use Rattle.records.specs.Numbers.{Bytes}
use Rattle.records.specs.Kinds.{byte_of}
use Rattle.records.specs.Calls as calls
use Rattle.records.specs.Writing.{bytes_of}
use Rattle.records.proofs.Assured.{promises}
use Rattle.executive.specs.declared.Mail.{Mail}
use Rattle.executive.specs.declared.Rest.{Rest}
use Rattle.executive.specs.declared.Table.{Table}
use Rattle.executive.specs.Lists.{◌and◌}
use Rattle.executive.specs.Places.{task_at}
use Rattle.executive.specs.Pool.{requests, place_of}
use Rattle.executive.specs.Table.{stays, Plan, apply}
use Rattle.executive.specs.Subprograms.{sub_at, is_held}
use Rattle.executive.specs.Messages.{no_mail, letters, with_letters, first_fit, post, mail_at, mail_put, with_mail}
use Rattle.executive.specs.Plans.{caller, state_at, waking, letter_of, terminate_plan, restart_plan, pause_plan, cancel_pause_plan, start_now_plan, queue_request_plan, start_if_dormant_plan}
use Rattle.executive.specs.Plans.{start_or_queue_plan, set_plan, reset_plan, flag_plan, wait_plan, alarm_plan, tick_plan, enter_plan, exit_plan, send_plan, receive_plan}
use Rattle.executive.specs.Flags.{met, mode_of}
use Rattle.executive.specs.States.{is_dormant, is_paused, takes}
use Rattle.executive.specs.WellFormed.{WellFormed}
use Rattle.executive.specs.Sheet.{plan_of}
use Rattle.executive.specs.Refusals.{call_in}
use Rattle.executive.specs.Step.{step_of}
use Rattle.executive.specs.Promises.Demands.{plan_of_record}
use Rattle.executive.specs.Promises.MailLaw.{empties?, fills?}
use Rattle.executive.proofs.Lists.Tests.{false_not_true}
use Rattle.executive.proofs.messages.Arrays.{mail-other}
use Rattle.executive.proofs.Plans.Tick.{advanced-alone}
use Rattle.executive.proofs.refusals.NothingRefuses.{or-none}
use Rattle.executive.proofs.step.StepIsPlan.{picked, step_is}
use Rattle.executive.proofs.step.FirstThatHolds.{refusal-keeps}
use Rattle.executive.proofs.Book.Step.{planned_so}
use Rattle.executive.proofs.Book.Counted.{was_read, first_byte}

-- ---- of two that are not both so
and_left : (a : Bool) → a and true ≡ false → a ≡ false
and_left true e = e
and_left false e = refl

and_true_left : (a : Bool) → a and true ≡ true → a ≡ true
and_true_left true e = refl
and_true_left false e = e

and-never : {P : Type 0} (a : Bool) → a and false ≡ true → P
and-never true e = false_not_true e
and-never false e = false_not_true e

-- ---- a mail that is gone is gone, whatever the number
blank-set : (ml : List Mail) (i : ℕ) → get_or (set ml i no_mail) i no_mail ≡ no_mail
blank-set [] i = refl
blank-set (x ∷ ml) zero = refl
blank-set (x ∷ ml) (suc i) = blank-set ml i

blank_put : (ml : List Mail) (k : ℕ) → mail_at (mail_put ml k no_mail) k ≡ no_mail
unfolding mail_at
blank_put ml zero = refl
blank_put ml (suc i) = blank-set ml i

-- a call of a kind that empties its caller's entry
abbrev emptying : Call → Bool
emptying c = eqb (byte_of (calls.kind_of_call c)) 0x00 || (eqb (byte_of (calls.kind_of_call c)) 0x01 || eqb (byte_of (calls.kind_of_call c)) 0x15)

module _ (t : Table) (k : ℕ) where
  abbrev Stands : Plan → Type 0
  Stands p = mail_at p.rest.mail k ≡ mail_at t.rest.mail k

  either : (b : Bool) (p q : Plan) → Stands p → Stands q → Stands (cond b p q)
  either true p q x y = x
  either false p q x y = y

  send-stands : (j : TaskNo) (x : Text) → eqb k j.0 and takes (caller t).0 (task_at t.tasks k).state ≡ false → Stands (send_plan t j x)
  unfolding send_plan
  send-stands j x f = go (takes (caller t).0 (state_at t j)) refl
    where
      given : Plan
      given = record { out = stays; ins = waking j; rest = with_mail j.0 (record { sender = caller t; text = x }) t.rest }

      kept : Plan
      kept = record { out = stays; ins = []; rest = with_letters (post (letter_of t j x) (letters t.rest)) t.rest }

      other : (b : Bool) → eqb k j.0 ≡ b → takes (caller t).0 (state_at t j) ≡ true → b and takes (caller t).0 (task_at t.tasks k).state ≡ false → eqb k j.0 ≡ false
      other true q e f =
          let p : k ≡ j.0 = eqb-true k j.0 q in
          let z : takes (caller t).0 (task_at t.tasks k).state ≡ true = ap (λ (n : ℕ). takes (caller t).0 (task_at t.tasks n).state) p ∙ e in
          false_not_true (sym f ∙ z)
      other false q e f = q

      go : (b : Bool) → takes (caller t).0 (state_at t j) ≡ b → Stands (cond b given kept)
      go true e = mail-other t.rest j.0 k (record { sender = caller t; text = x }) (other (eqb k j.0) refl e f)
      go false e = refl

  call-stands : (c : Call) → eqb k (caller t).0 and emptying c ≡ false
      → eqb k (get_or (bytes_of c) 1 0) and (eqb (byte_of (calls.kind_of_call c)) 0x14 and takes (caller t).0 (task_at t.tasks k).state) ≡ false
      → mail_at (apply (plan_of t c) t).rest.mail k ≡ mail_at t.rest.mail k
  unfolding plan_of apply terminate_plan restart_plan pause_plan cancel_pause_plan start_if_dormant_plan start_or_queue_plan start_now_plan queue_request_plan flag_plan reset_plan set_plan wait_plan alarm_plan tick_plan enter_plan exit_plan receive_plan
  call-stands call.Terminate e f = let d = mail-other t.rest (caller t).0 k no_mail (and_left (eqb k (caller t).0) e) in either (ltb (place_of (caller t).0 (requests t.rest)) (length (requests t.rest))) _ _ d d
  call-stands (call.Restart p n) e f = mail-other t.rest (caller t).0 k no_mail (and_left (eqb k (caller t).0) e)
  call-stands (call.Pause u n) e f = either (eqb n 0) _ _ refl refl
  call-stands (call.CancelPause j) e f = either (is_paused (state_at t j)) _ _ refl refl
  call-stands (call.StartIfDormant o j) e f = either (is_dormant (state_at t j)) _ _ refl refl
  call-stands (call.StartOrQueue o j a) e f = either (is_dormant (state_at t j)) _ _ refl refl
  call-stands (call.Flag o g) e f = either (eqb o 0) _ _ refl (either (eqb o 1) _ _ refl refl)
  call-stands (call.Wait m mask) e f = either (met t.rest.flags (mode_of m) mask) _ _ refl refl
  call-stands (call.Alarm u n g) e f = either (eqb n 0) _ _ refl refl
  call-stands call.Tick e f = advanced-alone (λ (r : Rest). mail_at r.mail k) (λ r fs al. refl) t.rest
  call-stands (call.Granule g) e f = refl
  call-stands (call.Task p m) e f = refl
  call-stands call.End e f = refl
  call-stands (call.Enter m) e f = either (is_held (sub_at t.rest m.0)) _ _ refl refl
  call-stands (call.Exit m) e f = refl
  call-stands (call.Send j x) e f = send-stands j x f
  call-stands (call.Receive s) e f = let d = mail-other t.rest (caller t).0 k no_mail (and_left (eqb k (caller t).0) e) in either (ltb (first_fit (caller t).0 s.0 (letters t.rest)) (length (letters t.rest))) _ _ d d

  -- ---- the caller's mail is gone
  here : eqb k (caller t).0 ≡ true → (p : Plan) → p.rest.mail ≡ mail_put t.rest.mail (caller t).0 no_mail → mail_at p.rest.mail k ≡ no_mail
  here e p q =
      let z : k ≡ (caller t).0 = eqb-true k (caller t).0 e in
      ap (λ (ml : List Mail). mail_at ml k) q ∙ ap (λ (n : ℕ). mail_at (mail_put t.rest.mail (caller t).0 no_mail) n) z ∙ blank_put t.rest.mail (caller t).0

  call_empties : (c : Call) → eqb k (caller t).0 and emptying c ≡ true → mail_at (apply (plan_of t c) t).rest.mail k ≡ no_mail
  unfolding plan_of apply terminate_plan restart_plan pause_plan cancel_pause_plan start_if_dormant_plan start_or_queue_plan start_now_plan queue_request_plan flag_plan reset_plan set_plan wait_plan alarm_plan tick_plan enter_plan exit_plan receive_plan
  call_empties call.Terminate e = here (and_true_left (eqb k (caller t).0) e) (terminate_plan t) (picked (λ (p : Plan). p.rest.mail) (ltb (place_of (caller t).0 (requests t.rest)) (length (requests t.rest))) _ _ _ refl refl)
  call_empties (call.Restart p n) e = here (and_true_left (eqb k (caller t).0) e) (restart_plan t p n) refl
  call_empties (call.Pause u n) e = and-never (eqb k (caller t).0) e
  call_empties (call.CancelPause j) e = and-never (eqb k (caller t).0) e
  call_empties (call.StartIfDormant o j) e = and-never (eqb k (caller t).0) e
  call_empties (call.StartOrQueue o j a) e = and-never (eqb k (caller t).0) e
  call_empties (call.Flag o g) e = and-never (eqb k (caller t).0) e
  call_empties (call.Wait m mask) e = and-never (eqb k (caller t).0) e
  call_empties (call.Alarm u n g) e = and-never (eqb k (caller t).0) e
  call_empties call.Tick e = and-never (eqb k (caller t).0) e
  call_empties (call.Granule g) e = and-never (eqb k (caller t).0) e
  call_empties (call.Task p m) e = and-never (eqb k (caller t).0) e
  call_empties call.End e = and-never (eqb k (caller t).0) e
  call_empties (call.Enter m) e = and-never (eqb k (caller t).0) e
  call_empties (call.Exit m) e = and-never (eqb k (caller t).0) e
  call_empties (call.Send j x) e = and-never (eqb k (caller t).0) e
  call_empties (call.Receive s) e = here (and_true_left (eqb k (caller t).0) e) (receive_plan t s) (picked (λ (p : Plan). p.rest.mail) (ltb (first_fit (caller t).0 s.0 (letters t.rest)) (length (letters t.rest))) _ _ _ refl refl)

-- ---- the step
pub mail-stands : (t : Table) (s : List ℕ) (k : ℕ) → WellFormed t → Bytes s → (empties? t s k || fills? t s k) ≡ false
    → mail_at (step_of t s).table.rest.mail k ≡ mail_at t.rest.mail k
mail-stands t s k w y h = let o = or-none (empties? t s k) (fills? t s k) h in go (eqb n 0) refl o.0 o.1
  where
    n : ℕ
    n = (step_of t s).answer.number

    go : (b : Bool) → eqb n 0 ≡ b
        → eqb k (caller t).0 and ((b and eqb (get_or s 0 0) 0x00) || ((b and eqb (get_or s 0 0) 0x01) || (b and eqb (get_or s 0 0) 0x15))) ≡ false
        → eqb k (get_or s 1 0) and ((b and eqb (get_or s 0 0) 0x14) and takes (caller t).0 (task_at t.tasks k).state) ≡ false
        → mail_at (step_of t s).table.rest.mail k ≡ mail_at t.rest.mail k
    go true e x z =
        let m : n ≡ 0 = eqb-true n 0 e in
        let f = first_byte t s m y in
        let g : get_or s 1 0 ≡ get_or (bytes_of (call_in s)) 1 0 = ap (λ (l : List ℕ). get_or l 1 0) (sym (promises.read_write s (call_in s) y (was_read t s m))) in
        let p : plan_of_record t s ≡ plan_of t (call_in s) = planned_so t s m in
        rw ((step_is t s w y).table, p) (call-stands t k (call_in s) (rw f at x) (rw (g, f) at z))
    go false e x z = ap (λ (u : Table). mail_at u.rest.mail k) (refusal-keeps t s (eqb-false n 0 e))

pub mail-gone : (t : Table) (s : List ℕ) (k : ℕ) → WellFormed t → Bytes s → empties? t s k ≡ true → mail_at (step_of t s).table.rest.mail k ≡ no_mail
mail-gone t s k w y h = go (eqb n 0) refl h
  where
    n : ℕ
    n = (step_of t s).answer.number

    go : (b : Bool) → eqb n 0 ≡ b
        → eqb k (caller t).0 and ((b and eqb (get_or s 0 0) 0x00) || ((b and eqb (get_or s 0 0) 0x01) || (b and eqb (get_or s 0 0) 0x15))) ≡ true
        → mail_at (step_of t s).table.rest.mail k ≡ no_mail
    go true e x =
        let m : n ≡ 0 = eqb-true n 0 e in
        let f = first_byte t s m y in
        let p : plan_of_record t s ≡ plan_of t (call_in s) = planned_so t s m in
        rw ((step_is t s w y).table, p) (call_empties t k (call_in s) (rw f at x))
    go false e x = and-never (eqb k (caller t).0) x
