-- A step is its decision, which looks at no queue: what `decide` says of the tasks, the rest and the caller of a table
-- is what the table's step does.
use Rattle.std.specs.Prelude.{◌≡◌, cond, List, ℕ, eqb}
use Rattle.records.specs.declared.Call.{Call}
use Rattle.executive.specs.declared.Table.{Table}
use Rattle.executive.specs.declared.Outcome.{Outcome}
use Rattle.executive.specs.declared.decisions.Decision.{Decision}
use Rattle.executive.specs.Table.{apply, apply_in_flight}
use Rattle.executive.specs.Plans.{caller}
use Rattle.executive.specs.Check.{queue_right}
use Rattle.executive.specs.Decisions.{meant}
use Rattle.executive.specs.Sheet.{rule_of, plan_of}
use Rattle.executive.specs.Deciding.{decision_for}
use Rattle.executive.specs.Step.{answer_of, refused, step_of}

-- what a decision does at a table: its deed, with its marks in the answer; or it refuses with its number
unfoldable pub done : Table → Decision → Outcome
done t d = record {
  answer = answer_of 0 d.marks (apply_in_flight (meant d.deed t) t).walked (apply (meant d.deed t) t);
  table = apply (meant d.deed t) t;
}

unfoldable pub enacted : Table → Decision → Outcome
enacted t d = cond (eqb d.number 0) (done t d) (refused t d.number)

-- two tables with the same tasks, the same rest and the same caller
pub record AlikeButQueue (t u : Table) : Type 0 where
  pub tasks : t.tasks ≡ u.tasks
  pub rest : t.rest ≡ u.rest
  pub calls : caller t ≡ caller u

pub record ByDecision : Type 0 where
  -- a step is: the queue's own tests, else number 1; then the decision, done
  pub step : (t : Table) (s : List ℕ)
      → step_of t s ≡ cond (queue_right t) (enacted t (decision_for t.tasks t.rest (caller t) s)) (refused t 1)
  -- no refusal, no marks, no deed and no plan depends on the queue
  pub unseen : (t u : Table) → AlikeButQueue t u → (c : Call) → (rule_of t c ≡ rule_of u c) × (plan_of t c ≡ plan_of u c)
