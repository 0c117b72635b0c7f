-- The second engine's step: the answer and the table that a record brings about, from any table and any bytes. What is
-- decided is what the first engine decides; it is done to this engine's table.
use Rattle.std.specs.Prelude.{ℕ, ◌≡◌, false, cond, List, eqb}
use Rattle.records.specs.declared.TaskNo.{TaskNo}
use Rattle.executive.specs.declared.Marks.{Marks}
use Rattle.executive.specs.declared.Answer.{Answer}
use Rattle.executive.specs.declared.Rest.{Rest}
use Rattle.executive.specs.declared.Table.{Table}
use Rattle.executive.specs.declared.decisions.Deed.{Deed}
use Rattle.executive.specs.declared.decisions.Decision.{Decision}
use Rattle.executive.specs.Table.{Plan}
use Rattle.executive.specs.Decisions.{named, out_for, joins_for, meant}
use Rattle.executive.specs.Deciding.{decision_for}
use Rattle.executive.specs.Sheet.{marks}
use Rattle.executive.specs.Step.{has_v, no_table}
use Rattle.executive.specs.Configuration.{with_tasks}
use Rattle.scan.specs.declared.Scanned.{Scanned}
use Rattle.scan.specs.declared.Scan.{Scan}
use Rattle.scan.specs.Entries.{tasks_in, entry_at}
use Rattle.scan.specs.Choosing.{chosen_no}
use Rattle.scan.specs.Moves.{apply_scan}
use Rattle.scan.specs.Sound.{arrivals_right}

-- ---- the answer: the active task and its run's argument, both 0 when idle; how many were passed over
abbrev pub answer_by : ℕ → Marks → ℕ → TaskNo → ℕ → Answer
answer_by n m walked k argument = record {
  number = n;
  z = m.z;
  v = m.v;
  c = m.c;
  active = k;
  argument = argument;
  skipped = m.skipped;
  walked = walked;
  sender = m.sender;
  text = m.text;
}

-- the active task is the chosen one
abbrev pub answer_scan : ℕ → Marks → ℕ → Scanned → Answer
answer_scan n m walked e = answer_by n m walked (chosen_no e.entries) (entry_at e.entries (chosen_no e.entries).0).task.argument

-- ---- the first engine's table with the same entries and rest, and nobody in its queue
abbrev pub bare : Scanned → Table
bare e = with_tasks (tasks_in e.entries) e.rest

-- what a deed means at this table: the plan of it, which looks at no queue; and with the rest that it leaves given
abbrev pub plan_scan : Deed → Scanned → Plan
plan_scan d e = meant d (bare e)

abbrev pub plan_to : Deed → Rest → Scanned → Plan
plan_to d r e = record { out = out_for d.leave; ins = joins_for d.request e.rest.clock (named d.entrants); rest = r }

-- what is decided of a record
abbrev pub decision_scan : Scanned → List ℕ → Decision
decision_scan e s = decision_for (tasks_in e.entries) e.rest (chosen_no e.entries) s

-- ---- a decision at a table: done, or refused with its number. A refusal keeps the table as given; after 1 active and
-- argument are 0
unfoldable pub done_scan : Scanned → Decision → Scan
done_scan e d = record {
  answer = answer_scan 0 d.marks (apply_scan (plan_scan d.deed e) e).walked (apply_scan (plan_scan d.deed e) e).table;
  table = (apply_scan (plan_scan d.deed e) e).table;
}

unfoldable pub refused_scan : Scanned → ℕ → Scan
refused_scan e n =
    cond (eqb n 1)
    (record { answer = no_table; table = e })
    (record { answer = answer_scan n (marks false (has_v n) false) 0 e; table = e })

unfoldable pub enacted_scan : Scanned → Decision → Scan
enacted_scan e d = cond (eqb d.number 0) (done_scan e d) (refused_scan e d.number)

-- 1 where the arrival numbers are not in order; then the decision, which gives 1 where any other rule is broken
unfoldable pub scan_of : Scanned → List ℕ → Scan
scan_of e s = cond (arrivals_right e) (enacted_scan e (decision_scan e s)) (refused_scan e 1)

abbrev pub Scans : Scanned → List ℕ → Scan → Type 0
Scans e s o = o ≡ scan_of e s
