-- The step: the answer and the table that a record brings about, from any table and any bytes.
use Rattle.std.specs.Prelude.{ℕ, ◌≡◌, Bool, false, cond, ◌||◌, List, eqb}
use Rattle.records.specs.Firsts.{first_of}
use Rattle.records.specs.declared.Call.{Call}
use Rattle.records.specs.Writing.{bytes_of}
use Rattle.executive.specs.declared.Table.{Table}
use Rattle.executive.specs.declared.Marks.{Marks}
use Rattle.executive.specs.declared.Answer.{Answer}
use Rattle.executive.specs.declared.Outcome.{Outcome}
use Rattle.executive.specs.Places.{nobody, task_at}
use Rattle.executive.specs.Table.{apply_in_flight}
use Rattle.executive.specs.Messages.{no_text}
use Rattle.executive.specs.Plans.{caller}
use Rattle.executive.specs.Sheet.{marks, plan_of, marks_of}
use Rattle.executive.specs.Refusals.{call_in, call_refusals, refusals}

-- ---- the answer: the active task of the table and its run's argument, both 0 when idle; how many were passed over by
-- those that entered; the sender and the text of the message that is handed out
abbrev pub answer_of : ℕ → Marks → ℕ → Table → Answer
answer_of n m walked t = record {
  number = n;
  z = m.z;
  v = m.v;
  c = m.c;
  active = caller t;
  argument = (task_at t.tasks (caller t).0).argument;
  skipped = m.skipped;
  walked = walked;
  sender = m.sender;
  text = m.text;
}

-- an accepted call executes its plan
unfoldable pub accepted : Table → Call → Outcome
accepted t c = record {
  answer = answer_of 0 (marks_of t c) (apply_in_flight (plan_of t c) t).walked (apply_in_flight (plan_of t c) t).table;
  table = (apply_in_flight (plan_of t c) t).table;
}

-- V is 1 for 4, 6 and 7; after 1 active and argument are 0, after the others the kept table's. Every refusal keeps
-- the table as given
abbrev pub has_v : ℕ → Bool
has_v n = eqb n 4 || (eqb n 6 || eqb n 7)

-- the answer where there is no well-formed table
abbrev pub no_table : Answer
no_table = record {
  number = 1;
  z = false;
  v = false;
  c = false;
  active = nobody;
  argument = 0;
  skipped = 0;
  walked = 0;
  sender = nobody;
  text = no_text;
}

unfoldable pub refused : Table → ℕ → Outcome
refused t n =
    cond (eqb n 1)
    (record { answer = no_table; table = t })
    (record { answer = answer_of n (marks false (has_v n) false) 0 t; table = t })

abbrev pub outcome_of : Table → ℕ → Call → Outcome
outcome_of t n c = cond (eqb n 0) (accepted t c) (refused t n)

-- a call that was read, at a well-formed table
unfoldable pub performed : Table → Call → Outcome
performed t c = outcome_of t (first_of (call_refusals t c)) c

-- a record's bytes, at any table
unfoldable pub step_of : Table → List ℕ → Outcome
step_of t s = outcome_of t (first_of (refusals t s)) (call_in s)

-- ---- the contracts: a is the answer where there is no well-formed table; o is what the record s brings about at the
-- table t, what the call c does
abbrev pub IsNoTable : Answer → Type 0
IsNoTable a = a ≡ no_table

abbrev pub Steps : Table → List ℕ → Outcome → Type 0
Steps t s o = o ≡ step_of t s

abbrev pub StepsCall : Table → Call → Outcome → Type 0
StepsCall t c o = o ≡ step_of t (bytes_of c)
