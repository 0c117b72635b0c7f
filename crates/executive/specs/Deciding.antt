-- What a step decides of a record's bytes: from the tasks, the rest and the caller alone. No queue is looked at; what
-- is decided at a table is what its step does (`Promises/ByDecision`).
use Rattle.std.specs.Prelude.{ℕ, Bool, not, cond, ◌||◌, List, eqb, length}
use Rattle.records.specs.declared.TaskNo.{TaskNo}
use Rattle.records.specs.Kinds.{length_of, is_call}
use Rattle.executive.specs.declared.Task.{Task}
use Rattle.executive.specs.declared.Rest.{Rest}
use Rattle.executive.specs.declared.decisions.Decision.{Decision}
use Rattle.executive.specs.declared.deciding.Settled.{Settled}
use Rattle.executive.specs.Lists.{◌and◌}
use Rattle.executive.specs.Places.{task_at}
use Rattle.executive.specs.States.{ready, is_of}
use Rattle.executive.specs.Check.{all_but_queue}
use Rattle.executive.specs.Messages.{no_mail, with_mail}
use Rattle.executive.specs.Decisions.{changed, refusing}
use Rattle.executive.specs.Sheet.{decision_of}
use Rattle.executive.specs.Refusals.{kind_of_record, call_in}

-- the caller k is nobody, or a ready task
abbrev pub caller_right : List Task → TaskNo → Bool
caller_right ts k = eqb k.0 0 || is_of ready (task_at ts k.0).state

-- of a record s: 3, 4 and 3, or what is decided of its call
abbrev pub decision_in : List Task → Rest → TaskNo → List ℕ → Decision
decision_in ts r k s =
    cond (eqb (length s) 0) (refusing 3)
    (cond (not (is_call (kind_of_record s))) (refusing 4)
    (cond (not (eqb (length s) (length_of (kind_of_record s)))) (refusing 3) (decision_of ts r k (call_in s))))

-- 1 before all: a rule is broken that is not the queue's, or there is no such caller
unfoldable pub decision_for : List Task → Rest → TaskNo → List ℕ → Decision
decision_for ts r k s = cond (all_but_queue ts r and caller_right ts k) (decision_in ts r k s) (refusing 1)

-- the rest after a decision: changed where it accepts, else as it was; both together
abbrev pub rest_after : Rest → Decision → Rest
rest_after r d = cond (eqb d.number 0) (with_mail d.deed.empties.0 no_mail (changed d.deed.change d.deed.request r)) r

abbrev pub settled_for : List Task → Rest → TaskNo → List ℕ → Settled
settled_for ts r k s = record { decision = decision_for ts r k s; rest = rest_after r (decision_for ts r k s) }
