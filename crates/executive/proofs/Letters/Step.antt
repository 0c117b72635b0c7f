-- What a step does to the messages that wait: one lemma for all kinds.
use mathlib.Core.Path.{◌≡◌, refl, sym, ap}
use mathlib.Core.Bool.{Bool, true, false, cond}
use mathlib.Core.List.{List, [], append-nil}
use Prim.Native.Nat.{ℕ, suc, ◌≤◌}
use native.Mathlib.Omega.{arith}
use borrow.Author.Tests.{ltb-false, eqb-true, eqb-false}
use lib.Dec.{ltb, eqb}
use lib.ListN.{length, drop_of_length-le}
use lib.Seq.{take_all}
use Rattle.records.specs.declared.TaskNo.{TaskNo}
use Rattle.records.specs.declared.Text.{Text}
use Rattle.records.specs.declared.Call.{Call}
use Rattle.records.specs.declared.Call.TheVariants as call
use Rattle.records.specs.Numbers.{Bytes}
use Rattle.executive.specs.declared.State.TheVariants.{AwaitMessage}
use Rattle.executive.specs.declared.Message.{Message}
use Rattle.executive.specs.declared.Table.{Table}
use Rattle.executive.specs.Entries.{with_state}
use Rattle.executive.specs.Pool.{requests, place_of, removed}
use Rattle.executive.specs.Table.{stays, leaves, Plan, apply}
use Rattle.executive.specs.Subprograms.{sub_at, is_held}
use Rattle.executive.specs.Messages.{no_mail, letters, with_letters, first_fit, post, with_mail}
use Rattle.executive.specs.Plans.{caller, state_at, waking, letter_of, terminate_plan, restart_plan, pause_plan, cancel_pause_plan, start_now_plan, queue_request_plan, start_if_dormant_plan}
use Rattle.executive.specs.Plans.{start_or_queue_plan, set_plan, reset_plan, flag_plan, wait_plan, alarm_plan, tick_plan, enter_plan, exit_plan, send_plan, receive_plan}
use Rattle.executive.specs.Flags.{met, mode_of}
use Rattle.executive.specs.States.{is_dormant, is_paused, takes}
use Rattle.executive.specs.WellFormed.{WellFormed}
use Rattle.executive.specs.Sheet.{plan_of}
use Rattle.executive.specs.Refusals.{call_in}
use Rattle.executive.specs.Step.{step_of}
use Rattle.executive.specs.Promises.Demands.{plan_of_record}
use Rattle.executive.specs.Letters.{elsewhere, delivers, keeps, passage_of, passage_in}
use Rattle.executive.proofs.messages.Arrays.{letters_with}
use Rattle.executive.proofs.messages.Unmet.{none_from}
use Rattle.executive.proofs.Plans.Tick.{advanced-alone}
use Rattle.executive.proofs.step.StepIsPlan.{picked, step_is}
use Rattle.executive.proofs.step.FirstThatHolds.{refusal-keeps}
use Rattle.executive.proofs.Book.Step.{planned_so}
use Rattle.executive.proofs.Letters.Written.{Passes}

-- past the last one there is none to take out
none_out : (i : ℕ) (xs : List Message) → length xs ≤ i → removed i xs ≡ xs
none_out i xs h = simp (take_all i xs h, drop_of_length-le xs {i = suc i} (omega arith), append-nil)

module _ (t : Table) (w : WellFormed t) where
  abbrev ms : List Message
  ms = letters t.rest

  abbrev c : TaskNo
  c = caller t

  either : (b : Bool) (p q : Plan) → letters p.rest ≡ ms → letters q.rest ≡ ms → letters (cond b p q).rest ≡ ms
  either b p q x y = picked (λ (p : Plan). letters p.rest) b p q ms x y

  -- ---- 14: delivered to one who waits for it, so that none from this sender waited for it; or kept
  send-passes : (k : TaskNo) (x : Text) → Passes ms (letters (send_plan t k x).rest) (passage_of t (call.Send k x))
  unfolding send_plan passage_of
  send-passes k x = go (takes c.0 (state_at t k)) refl
    where
      given : Plan
      given = record { out = stays; ins = waking k; rest = with_mail k.0 (record { sender = c; text = x }) t.rest }

      kept : Plan
      kept = record { out = stays; ins = []; rest = with_letters (post (letter_of t k x) ms) t.rest }

      go : (b : Bool) → takes c.0 (state_at t k) ≡ b → Passes ms (letters (cond b given kept).rest) (cond b (delivers (letter_of t k x)) (keeps (letter_of t k x)))
      go true e = (refl, none_from t.tasks k.0 c.0 ms e w.messages.unmet)
      go false e = letters_with (post (letter_of t k x) ms) t.rest

  -- ---- 15: the first that fits is taken out, if there is one
  receive-passes : (s : TaskNo) → letters (receive_plan t s).rest ≡ removed (first_fit c.0 s.0 ms) ms
  unfolding receive_plan
  receive-passes s = go (ltb (first_fit c.0 s.0 ms) (length ms)) refl
    where
      i : ℕ
      i = first_fit c.0 s.0 ms

      found : Plan
      found = record { out = stays; ins = []; rest = with_mail c.0 no_mail (with_letters (removed i ms) t.rest) }

      none : Plan
      none = record { out = leaves (with_state (AwaitMessage s)); ins = []; rest = with_mail c.0 no_mail t.rest }

      go : (b : Bool) → ltb i (length ms) ≡ b → letters (cond b found none).rest ≡ removed i ms
      go true e = letters_with (removed i ms) t.rest
      go false e = sym (none_out i ms (ltb-false i (length ms) e))

  call_passes : (c : Call) → Passes ms (letters (apply (plan_of t c) t).rest) (passage_of t c)
  unfolding plan_of passage_of apply terminate_plan restart_plan pause_plan cancel_pause_plan start_if_dormant_plan start_or_queue_plan start_now_plan queue_request_plan flag_plan reset_plan set_plan wait_plan alarm_plan tick_plan enter_plan exit_plan
  call_passes call.Terminate = either (ltb (place_of c.0 (requests t.rest)) (length (requests t.rest))) _ _ refl refl
  call_passes (call.Restart p n) = refl
  call_passes (call.Pause u n) = either (eqb n 0) _ _ refl refl
  call_passes (call.CancelPause k) = either (is_paused (state_at t k)) _ _ refl refl
  call_passes (call.StartIfDormant o k) = either (is_dormant (state_at t k)) _ _ refl refl
  call_passes (call.StartOrQueue o k a) = either (is_dormant (state_at t k)) _ _ refl refl
  call_passes (call.Flag o f) = either (eqb o 0) _ _ refl (either (eqb o 1) _ _ refl refl)
  call_passes (call.Wait m mask) = either (met t.rest.flags (mode_of m) mask) _ _ refl refl
  call_passes (call.Alarm u n f) = either (eqb n 0) _ _ refl refl
  call_passes call.Tick = advanced-alone letters (λ r fs al. refl) t.rest
  call_passes (call.Granule g) = refl
  call_passes (call.Task p m) = refl
  call_passes call.End = refl
  call_passes (call.Enter m) = either (is_held (sub_at t.rest m.0)) _ _ refl refl
  call_passes (call.Exit m) = refl
  call_passes (call.Send k x) = send-passes k x
  call_passes (call.Receive s) = receive-passes s

-- ---- the step
pub step-passes : (t : Table) (s : List ℕ) → WellFormed t → Bytes s → Passes (letters t.rest) (letters (step_of t s).table.rest) (passage_in t s)
unfolding passage_in
step-passes t s w b = go (eqb (step_of t s).answer.number 0) refl
  where
    n : ℕ
    n = (step_of t s).answer.number

    go : (x : Bool) → eqb n 0 ≡ x → Passes (letters t.rest) (letters (step_of t s).table.rest) (cond x (passage_of t (call_in s)) elsewhere)
    go true e =
        let p : plan_of_record t s ≡ plan_of t (call_in s) = planned_so t s (eqb-true n 0 e) in
        rw ((step_is t s w b).table, p) (call_passes t w (call_in s))
    go false e = ap (λ (u : Table). letters u.rest) (refusal-keeps t s (eqb-false n 0 e))
