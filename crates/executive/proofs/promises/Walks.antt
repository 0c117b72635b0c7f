-- How far those that enter walk, of every step.
use mathlib.Core.Path.{◌≡◌, refl, sym, ◌∙◌}
use mathlib.Core.Logic.{◌≢◌}
use mathlib.Core.Bool.{Bool, true, false, cond}
use mathlib.Core.List.{List}
use Prim.Native.Nat.{ℕ, ◌≤◌, zero-le}
use native.Mathlib.Omega.{arith}
use borrow.Author.Tests.{ne_eqb}
use lib.Dec.{eqb}
use Rattle.records.specs.Firsts.{first_of}
use Rattle.records.specs.Numbers.{Bytes}
use Rattle.records.specs.declared.Call.{Call}
use Rattle.executive.specs.declared.Table.{Table}
use Rattle.executive.specs.declared.Outcome.{Outcome}
use Rattle.records.specs.Kinds.{kind_of}
use Rattle.records.specs.Reading.{read_as, read_of}
use Rattle.executive.specs.Lists.{pad, each, sum_of, up_to, all_of}
use Rattle.executive.specs.Queue.{behind, walk, EachWalks}
use Rattle.executive.specs.Places.{task_at, put_at}
use Rattle.executive.specs.Table.{enter_at, ahead_of, entered, depart, enter_in_flight, enter_all_in_flight, apply_in_flight, items, levels_of}
use Rattle.executive.specs.Clock.{rung, advanced}
use Rattle.executive.specs.Plans.{nothing, priority_of, start_now_plan, start_if_dormant_plan, passing, raisings, put_by_time, by_time, timed, tick_plan}
use Rattle.executive.specs.WellFormed.{WellFormed}
use Rattle.executive.specs.Messages.{mail_at}
use Rattle.executive.specs.Check.{emptied_at, messages_right, letters_fall}
use Rattle.executive.specs.Check.{all_but_queue, numbers_right, falls, exact_at, queue_right, times_right, started_right, masks_right, busy_right, waiters_at, waiters_right, dormant_right, pool_right, subs_from, subs_right, is_well_formed}
use Rattle.executive.specs.Sheet.{plan_of, marks, marks_of}
use Rattle.executive.specs.Subprograms.{holds_any_of}
use Rattle.executive.specs.Refusals.{call_in, nobody_active, bad_body, holds_it, holds_not, holds_any, names_caller, alarm_running, pool_full, mail_full, ends_time, refusals}
use Rattle.executive.specs.Step.{no_table, answer_of, has_v, accepted, refused, outcome_of, step_of}
use Rattle.executive.specs.Promises.Demands.{plan_for, plan_of_record}
use Rattle.executive.specs.Promises.Walks.{moves_in, queue_for, all_paused, last_dormant, Walks}
use Rattle.executive.proofs.Lists.Tests.{false_not_true}
use Rattle.executive.proofs.calls.InOrder.{fit_of}
use Rattle.executive.proofs.check.Decides.{well_formed-iff}
use Rattle.executive.proofs.Plans.WorkingForm.{formed}
use Rattle.executive.proofs.Plans.Walking.{plan-most, plan-walked, plan-each}
use Rattle.executive.proofs.step.StepIsPlan.{picked, step_is}
use Rattle.executive.proofs.step.FirstThatHolds.{step-number, unformed}

refused-walked : (t : Table) (n : ℕ) → (refused t n).answer.walked ≡ 0
unfolding refused
refused-walked t n = picked (λ (o : Outcome). o.answer.walked) (eqb n 1)
    (record { answer = no_table; table = t })
    (record { answer = answer_of n (marks false (has_v n) false) 0 t; table = t }) 0 refl refl

refusal-walks : (t : Table) (s : List ℕ) → (step_of t s).answer.number ≢ 0 → (step_of t s).answer.walked ≡ 0
unfolding step_of
refusal-walks t s h = rw (ne_eqb (first_of (refusals t s)) 0 (λ e. h (step-number t s ∙ e))) (refused-walked t (first_of (refusals t s)))

-- the count is that of the plan which is executed; a refused step's executes nothing
outcome_walked : (t : Table) (n : ℕ) (c : Call) → (outcome_of t n c).answer.walked ≡ (apply_in_flight (plan_for t n c) t).walked
unfolding accepted apply_in_flight enter_all_in_flight depart
outcome_walked t n c = go (eqb n 0)
  where
    go : (b : Bool) → (cond b (accepted t c) (refused t n)).answer.walked ≡ (apply_in_flight (cond b (plan_of t c) (nothing t)) t).walked
    go true = refl
    go false = refused-walked t n

step-walked : (t : Table) (s : List ℕ) → (step_of t s).answer.walked ≡ (apply_in_flight (plan_of_record t s) t).walked
unfolding step_of plan_of_record
step-walked t s = outcome_walked t (first_of (refusals t s)) (call_in s)

module _ (t : Table) (s : List ℕ) (w : WellFormed t) (b : Bytes s) where
  counted : (step_of t s).answer.walked ≡ walk (moves_in t s).ins (queue_for t s)
  counted = step-walked t s ∙ plan-walked (plan_of_record t s) t (formed w).queue.sorted (step_is t s w b).kept.sound

  each-walks : EachWalks (moves_in t s).ins (queue_for t s)
  each-walks = let k = (step_is t s w b).kept in plan-each (plan_of_record t s) t (formed w).queue.sorted k.sound k.room

  most : (step_of t s).answer.walked ≤ 120
  most = rw (step-walked t s) (plan-most (plan_of_record t s) t (fit_of t w) (step_is t s w b).kept.size)

most-any : (t : Table) (s : List ℕ) → Bytes s → (step_of t s).answer.walked ≤ 120
most-any t s b = go (is_well_formed t) refl
  where
    go : (x : Bool) → is_well_formed t ≡ x → (step_of t s).answer.walked ≤ 120
    go true e = most t s ((well_formed-iff t).0 e) b
    go false e =
        let n : (step_of t s).answer.number ≡ 1 = (unformed t s).1 (λ w. let z : ◌≡◌ {A = Bool} false true = sym e ∙ (well_formed-iff t).1 w in false_not_true z) in
        rw (refusal-walks t s (λ z. omega (arith, n, z))) zero-le

pub walks : Walks
unfolding behind pad task_at put_at enter_at ahead_of entered depart enter_in_flight enter_all_in_flight apply_in_flight each rung advanced passing raisings put_by_time by_time timed tick_plan priority_of start_now_plan start_if_dormant_plan up_to all_of sum_of numbers_right falls exact_at queue_right times_right started_right masks_right busy_right waiters_at waiters_right dormant_right pool_right subs_from subs_right all_but_queue is_well_formed kind_of read_as read_of plan_of nobody_active bad_body holds_any_of holds_it holds_not holds_any names_caller alarm_running pool_full mail_full ends_time refusals first_of marks_of accepted step_of all_paused last_dormant items levels_of emptied_at mail_at messages_right letters_fall
walks = record { counted = counted; each = each-walks; most = most-any; refused = refusal-walks; met = (refl, refl) }
