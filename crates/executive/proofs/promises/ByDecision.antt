-- A step is its decision, done; and nothing that is decided depends on the queue.
use Prim.Native.Nat.{ℕ}
use mathlib.Core.Path.{◌≡◌, refl, sym, ap, ◌∙◌}
use mathlib.Core.Bool.{Bool, true, false, cond}
use mathlib.Core.List.{List}
use borrow.Author.Tests.{eqb-true, eqb-false}
use lib.Dec.{eqb}
use Rattle.records.specs.declared.Call.{Call}
use Rattle.executive.specs.declared.Table.{Table}
use Rattle.executive.specs.declared.decisions.Decision.{Decision}
use Rattle.executive.specs.Table.{Plan, apply, apply_in_flight}
use Rattle.executive.specs.Plans.{caller}
use Rattle.executive.specs.Check.{queue_right}
use Rattle.executive.specs.Messages.{no_mail, with_mail}
use Rattle.executive.specs.Decisions.{out_for, joins_for, named, changed, meant}
use Rattle.executive.specs.Sheet.{sheet, rule_of, plan_of, marks_of}
use Rattle.executive.specs.Refusals.{call_in}
use Rattle.executive.specs.Deciding.{decision_for}
use Rattle.executive.specs.Step.{answer_of, accepted, refused, step_of}
use Rattle.executive.specs.Promises.ByDecision.{done, enacted, AlikeButQueue, ByDecision}
use Rattle.executive.proofs.Plans.GoodIsKept.{plan_in_flight}
use Rattle.executive.proofs.decisions.DeedIsPlan.{means}
use Rattle.executive.proofs.step.CodeIsStep.{step-queue, none-refuses}
use Rattle.executive.proofs.step.ByDecision.{Accepts, Follows, follows}

module _ (t : Table) (s : List ℕ) where
  accept : (d : Decision) → Accepts t s d → done t d ≡ step_of t s
  unfolding done accepted
  accept d a =
      let c : Call = call_in s in
      let p : meant d.deed t ≡ plan_of t c = ap (λ (x : Decision). meant x.deed t) a.said ∙ means t c in
      let q : apply (meant d.deed t) t ≡ (apply_in_flight (plan_of t c) t).table = ap (λ (x : Plan). apply x t) p ∙ sym (plan_in_flight (plan_of t c) t) in
      let n : (apply_in_flight (meant d.deed t) t).walked ≡ (apply_in_flight (plan_of t c) t).walked = ap (λ (x : Plan). (apply_in_flight x t).walked) p in
      let m : d.marks ≡ marks_of t c = ap (λ (x : Decision). x.marks) a.said in
      let e : done t d ≡ accepted t c = λ i. record { answer = answer_of 0 (m i) (n i) (q i); table = q i } in
      e ∙ none-refuses t c a.early ∙ a.step

  enact : (d : Decision) → Follows t s d → step_of t s ≡ enacted t d
  unfolding enacted
  enact d f = go (eqb d.number 0) refl
    where
      go : (x : Bool) → eqb d.number 0 ≡ x → step_of t s ≡ cond x (done t d) (refused t d.number)
      go true e = sym (accept d (f.accepts (eqb-true d.number 0 e)))
      go false e = sym (f.refuses (eqb-false d.number 0 e))

  step : step_of t s ≡ cond (queue_right t) (enacted t (decision_for t.tasks t.rest (caller t) s)) (refused t 1)
  step = go (queue_right t) refl
    where
      go : (x : Bool) → queue_right t ≡ x → step_of t s ≡ cond x (enacted t (decision_for t.tasks t.rest (caller t) s)) (refused t 1)
      go true q = enact (decision_for t.tasks t.rest (caller t) s) (follows t s q)
      go false q = sym (step-queue t s q)

module _ (t u : Table) (a : AlikeButQueue t u) (c : Call) where
  same-rule : rule_of t c ≡ rule_of u c
  same-rule = λ i. sheet (a.tasks i) (a.rest i) (a.calls i) c

  same_meaning : meant (rule_of t c).deed t ≡ meant (rule_of u c).deed u
  unfolding meant
  same_meaning = λ i. record {
    out = out_for (sheet (a.tasks i) (a.rest i) (a.calls i) c).deed.leave;
    ins = joins_for (sheet (a.tasks i) (a.rest i) (a.calls i) c).deed.request (a.rest i).clock (named (sheet (a.tasks i) (a.rest i) (a.calls i) c).deed.entrants);
    rest = with_mail (sheet (a.tasks i) (a.rest i) (a.calls i) c).deed.empties.0 no_mail
        (changed (sheet (a.tasks i) (a.rest i) (a.calls i) c).deed.change (sheet (a.tasks i) (a.rest i) (a.calls i) c).deed.request (a.rest i));
  }

  -- a plan is what its deed means
  same-plan : plan_of t c ≡ plan_of u c
  same-plan = sym (means t c) ∙ same_meaning ∙ means u c

pub by_decision : ByDecision
by_decision = record { step = step; unseen = λ t u a c. (same-rule t u a c, same-plan t u a c) }
