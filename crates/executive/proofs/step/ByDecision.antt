-- What is decided of a record at a table whose queue is right is what the table's step does.
use Prim.Native.Nat.{ℕ, ◌<◌}
use mathlib.Core.Path.{◌≡◌, refl, sym, ◌∙◌}
use mathlib.Core.Logic.{◌≢◌}
use mathlib.Core.Bool.{Bool, true, false, not, cond, ◌||◌}
use mathlib.Core.List.{List}
use native.Mathlib.Omega.{arith}
use borrow.Author.Tests.{eqb-true, eqb-false}
use lib.Dec.{eqb}
use lib.ListN.{length}
use Rattle.records.specs.Firsts.{first_of}
use Rattle.records.specs.Kinds.{length_of, is_call}
use Rattle.executive.specs.declared.Table.{Table}
use Rattle.executive.specs.declared.decisions.Decision.{Decision}
use Rattle.executive.specs.Places.{task_at}
use Rattle.executive.specs.States.{ready, is_of}
use Rattle.executive.specs.Plans.{caller}
use Rattle.executive.specs.WellFormed.{WellFormed}
use Rattle.executive.specs.Check.{queue_right, all_but_queue, is_well_formed}
use Rattle.executive.specs.Decisions.{refusing, doing}
use Rattle.executive.specs.Sheet.{rule_of, decision_of, marks_of}
use Rattle.executive.specs.Refusals.{kind_of_record, call_in, call_refusals}
use Rattle.executive.specs.Deciding.{caller_right, decision_in, decision_for}
use Rattle.executive.specs.Step.{refused, performed, step_of}
use Rattle.executive.proofs.check.Decides.{well_formed-iff}
use Rattle.executive.proofs.Plans.WorkingForm.{formed}
use Rattle.executive.proofs.step.Dispatched.{dispatches}
use Rattle.executive.proofs.step.CodeIsStep.{first-refuses, step-ill, step-empty, step-no-call, step-short, step-whole}
use Rattle.executive.proofs.decisions.OfBytes.{for_right, for_broken}
use Rattle.executive.proofs.decisions.CanBeDone.{decision_number, decision_done}

module _ (t : Table) (s : List ℕ) where
  -- a decision that accepts: the table is well formed, nothing refuses the call, and the decision is the sheet's
  pub record Accepts (d : Decision) : Type 0 where
    pub formed : WellFormed t
    pub early : first_of (call_refusals t (call_in s)) ≡ 0
    pub said : d ≡ doing (marks_of t (call_in s)) (rule_of t (call_in s)).deed
    pub step : performed t (call_in s) ≡ step_of t s

  -- what follows from a decision's number
  pub record Follows (d : Decision) : Type 0 where
    pub refuses : d.number ≢ 0 → refused t d.number ≡ step_of t s
    pub accepts : d.number ≡ 0 → Accepts d

  refuses_so : (n : ℕ) → 0 < n → refused t n ≡ step_of t s → Follows (refusing n)
  refuses_so n h e = record { refuses = λ z. e; accepts = λ z. absurd (omega (arith, h, z)) }

  call_so : WellFormed t → performed t (call_in s) ≡ step_of t s → Follows (decision_of t.tasks t.rest (caller t) (call_in s))
  call_so w e = record {
    refuses = λ z. first-refuses t (call_in s) _ (decision_number t w (call_in s)) z ∙ e;
    accepts = λ z.
        let y : first_of (call_refusals t (call_in s)) ≡ 0 = sym (decision_number t w (call_in s)) ∙ z in
        record { formed = w; early = y; said = decision_done t w (call_in s) y; step = e };
  }

  module _ (w : is_well_formed t ≡ true) where
    record_so : (a b c : Bool) → eqb (length s) 0 ≡ a → is_call (kind_of_record s) ≡ b → eqb (length s) (length_of (kind_of_record s)) ≡ c
        → Follows (cond a (refusing 3) (cond (not b) (refusing 4) (cond (not c) (refusing 3) (decision_of t.tasks t.rest (caller t) (call_in s)))))
    record_so true b c x y z = refuses_so 3 (omega arith) (step-empty t s w (eqb-true (length s) 0 x))
    record_so false false c x y z = refuses_so 4 (omega arith) (step-no-call t s w (eqb-false (length s) 0 x) y)
    record_so false true false x y z = refuses_so 3 (omega arith) (step-short t s w (eqb-false (length s) 0 x) y z)
    record_so false true true x y z = call_so ((well_formed-iff t).0 w) (step-whole t s w (eqb-false (length s) 0 x) y z)

    -- the caller of a well-formed table is nobody or ready
    caller-right : caller_right t.tasks (caller t) ≡ true
    caller-right = go (eqb (caller t).0 0) refl
      where
        go : (b : Bool) → eqb (caller t).0 0 ≡ b → (b || is_of ready (task_at t.tasks (caller t).0).state) ≡ true
        go true e = refl
        go false e =
            let l : 0 < (caller t).0 = omega (arith, eqb-false (caller t).0 0 e) in
            rw ((dispatches t (formed ((well_formed-iff t).0 w))).chosen l).ready refl

  -- where the queue is right, all else is right exactly where the table is well formed
  but_queue : queue_right t ≡ true → all_but_queue t.tasks t.rest ≡ is_well_formed t
  unfolding is_well_formed
  but_queue q = rw q refl

  pub follows : queue_right t ≡ true → Follows (decision_for t.tasks t.rest (caller t) s)
  follows q = go (is_well_formed t) refl
    where
      go : (b : Bool) → is_well_formed t ≡ b → Follows (decision_for t.tasks t.rest (caller t) s)
      go true w =
          rw (sym (for_right t.tasks t.rest (caller t) s (decision_in t.tasks t.rest (caller t) s) (but_queue q ∙ w) (caller-right w) refl))
          (record_so w (eqb (length s) 0) (is_call (kind_of_record s)) (eqb (length s) (length_of (kind_of_record s))) refl refl refl)
      go false w =
          rw (sym (for_broken t.tasks t.rest (caller t) s (but_queue q ∙ w))) (refuses_so 1 (omega arith) (step-ill t s w))
