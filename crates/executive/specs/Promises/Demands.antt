-- The founder's demands, said of `step_of`, the definition that the code is proved to take: for any well-formed
-- table and any records, refused ones included.
-- That each call gives the answer and the table that the rules of docs/CALLS.md define is the code's own contract,
-- `result ≡ step_of t s`.
use Rattle.std.specs.Prelude.{◌≡◌, ◌↔◌, ◌≢◌, true, cond, List, [], ◌∷◌, map, ℕ, ◌+◌, ◌≤◌, ◌<◌, eqb, length}
use Rattle.records.specs.Firsts.{Refusal, first_of, Decides}
use Rattle.records.specs.declared.Call.{Call}
use Rattle.records.specs.Numbers.{Bytes}
use Rattle.executive.specs.declared.State.TheVariants.{Ready}
use Rattle.executive.specs.declared.Table.{Table}
use Rattle.executive.specs.declared.Answer.{Answer}
use Rattle.executive.specs.declared.Outcome.{Outcome}
use Rattle.executive.specs.declared.Fresh.{Fresh}
use Rattle.executive.specs.Queue.{Moves, count, ahead, active_of, plays, Legal, departures, entries_above}
use Rattle.executive.specs.Lists.{one}
use Rattle.executive.specs.Pool.{requests, place_of}
use Rattle.executive.specs.Places.{task_at}
use Rattle.executive.specs.Table.{view, FindsRoom, Plan, depart, apply, moves_of}
use Rattle.executive.specs.Clock.{aim_at}
use Rattle.executive.specs.Plans.{caller, nothing, terminate_plan, restart_plan}
use Rattle.executive.specs.WellFormed.{WellFormed}
use Rattle.executive.specs.Check.{Checked}
use Rattle.executive.specs.Refusals.{call_in, call_refusals, refusals}
use Rattle.executive.specs.Sheet.{plan_of}
use Rattle.executive.specs.Promises.InWords.{Given}
use Rattle.executive.specs.Step.{step_of, IsNoTable, Steps, StepsCall}
use Rattle.executive.specs.Configuration.{Makes, Measures}

-- ---- the plan that a step executes: its kind's, where it is accepted; where it is refused, nothing
abbrev pub plan_for : Table → ℕ → Call → Plan
plan_for t n c = cond (eqb n 0) (plan_of t c) (nothing t)

unfoldable pub plan_of_call : Table → Call → Plan
plan_of_call t c = plan_for t (first_of (call_refusals t c)) c

unfoldable pub plan_of_record : Table → List ℕ → Plan
plan_of_record t s = plan_for t (first_of (refusals t s)) (call_in s)

-- ---- a history: records one after the other. The table after them, and what the plan of each did to the queue
unfoldable pub after : Table → List (List ℕ) → Table
after t [] = t
after t (s ∷ ss) = after (step_of t s).table ss

unfoldable pub history : Table → List (List ℕ) → List Moves
history t [] = []
history t (s ∷ ss) = moves_of (plan_of_record t s) t ∷ history (step_of t s).table ss

-- the records' elements are bytes
abbrev pub AllBytes : List (List ℕ) → Type 0
AllBytes [] = Unit {0}
AllBytes (s ∷ ss) = Bytes s × AllBytes ss

-- task k is ready, by its entry's state
abbrev pub IsReady : Table → ℕ → Type 0
IsReady t k = (task_at t.tasks k).state ≡ Ready

-- ---- demand 2: task k is the first of the ready tasks with highest priority
pub record Chosen (t : Table) (k : ℕ) : Type 0 where
  pub ready : IsReady t k
  pub highest : (j : ℕ) → IsReady t j → (task_at t.tasks j).priority ≤ (task_at t.tasks k).priority
  pub first : (j : ℕ) → IsReady t j → (task_at t.tasks j).priority ≡ (task_at t.tasks k).priority → j ≢ k → ahead k (view t) < ahead j (view t)

-- the active task k of table t is so chosen, and it is nobody exactly if no task is ready, by the states and by the
-- queue
pub record Dispatched (t : Table) (k : ℕ) : Type 0 where
  pub head : active_of (view t) ≡ k
  pub chosen : 0 < k → Chosen t k
  pub idle : (k ≡ 0) ↔ ((j : ℕ) → (task_at t.tasks j).state ≢ Ready)
  pub empty : (k ≡ 0) ↔ (t.ready ≡ 0)

-- ---- demand 3
-- task k is not active at the start of any of the steps
abbrev pub NotYet : ℕ → Table → List (List ℕ) → Type 0
NotYet k t [] = Unit {0}
NotYet k t (s ∷ ss) = (active_of (view t) ≢ k) × NotYet k (step_of t s).table ss

-- at the end of the steps task k, which was not active before, is ready at the same priority; those ahead of it and
-- the departures since are together
-- those ahead at the start and the entries since at a priority strictly above its own; it is active at the first
-- moment that nobody is ahead of it, and not before
pub record Overtaking (t : Table) (k : ℕ) (ss : List (List ℕ)) : Type 0 where
  pub still-ready : IsReady (after t ss) k
  pub same-priority : (task_at (after t ss).tasks k).priority ≡ (task_at t.tasks k).priority
  pub number : ahead k (view (after t ss)) + departures (history t ss) ≡ ahead k (view t) + entries_above (task_at t.tasks k).priority (history t ss)
  pub active-at-nought : (ahead k (view (after t ss)) ≡ 0) ↔ (active_of (view (after t ss)) ≡ k)

-- how often task k departed, being the active one; how often it entered
unfoldable pub departed_of : ℕ → Table → List (List ℕ) → ℕ
departed_of k t [] = 0
departed_of k t (s ∷ ss) = cond (moves_of (plan_of_record t s) t).out (one (eqb k (active_of (view t)))) 0 + departed_of k (step_of t s).table ss

unfoldable pub entered_of : ℕ → List Moves → ℕ
entered_of k [] = 0
entered_of k (m ∷ ms) = count k m.ins + entered_of k ms

-- a task that restarts in one step counts as one departure and one entry: by the step's plan; in a record's history
pub record Restarts (p : Plan) (t : Table) : Type 0 where
  pub departs : (moves_of p t).out ≡ true
  pub enters : count (caller t).0 (moves_of p t).ins ≡ 1

pub record RestartsBy (s : List ℕ) (t : Table) : Type 0 where
  pub departs : departed_of (caller t).0 t (s ∷ []) ≡ 1
  pub enters : entered_of (caller t).0 (history t (s ∷ [])) ≡ 1

-- ---- all of it: t is any table, s any record, ss any records
pub record Demands : Type 0 where
  -- 1: a refusal changes nothing, and its number is the first of the list whose condition holds, in words too
  -- (`Given`), number 1 exactly for a table that is not well formed; the list is in the order of docs/CALLS.md, 6; every
  -- step keeps the table well formed
  pub refusal-keeps : (t : Table) (s : List ℕ) → (step_of t s).answer.number ≢ 0 → (step_of t s).table ≡ t
  pub decided : (t : Table) (s : List ℕ) → Decides (refusals t s) (step_of t s).answer.number
  pub given : (t : Table) (s : List ℕ) (n : ℕ) → ((step_of t s).answer.number ≡ n) ↔ Given t s n
  pub unformed : (t : Table) (s : List ℕ) → ((step_of t s).answer.number ≡ 1) ↔ (WellFormed t → ⊥)
  pub order : (t : Table) (s : List ℕ) → map (λ (r : Refusal). r.number) (refusals t s) ≡ 1 ∷ 3 ∷ 4 ∷ 3 ∷ 5 ∷ 6 ∷ 13 ∷ 14 ∷ 15 ∷ 7 ∷ 9 ∷ 8 ∷ 16 ∷ 10 ∷ []
  pub kept : (t : Table) (ss : List (List ℕ)) → WellFormed t → AllBytes ss → WellFormed (after t ss)
  -- the step executes its plan
  pub executed : (t : Table) (s : List ℕ) → WellFormed t → Bytes s → (step_of t s).table ≡ apply (plan_of_record t s) t
  -- each that enters was not in the queue, and found at most fifteen there
  pub room : (t : Table) (s : List ℕ) → WellFormed t → Bytes s → FindsRoom (plan_of_record t s).ins (depart (plan_of_record t s).out t)
  -- 2: after any history
  pub dispatched : (t : Table) (ss : List (List ℕ)) (s : List ℕ) → WellFormed t → AllBytes ss → Bytes s
      → Dispatched (step_of (after t ss) s).table (step_of (after t ss) s).answer.active.0
  -- 3
  pub overtaking : (t : Table) (k : ℕ) (ss : List (List ℕ)) → WellFormed t → AllBytes ss → IsReady t k → NotYet k t ss → Overtaking t k ss
  -- the departures and entries counted are all that changes the queue: in the queue after and departed is in the
  -- queue before and entered, for each task
  pub accounted : (t : Table) (k : ℕ) (ss : List (List ℕ)) → WellFormed t → AllBytes ss → 0 < k
      → count k (view (after t ss)) + departed_of k t ss ≡ count k (view t) + entered_of k (history t ss)
  -- no entry or departure is invented: the queue after is the moves played on the queue before, and each that enters
  -- was not in it
  pub played : (t : Table) (ss : List (List ℕ)) → WellFormed t → AllBytes ss
      → view (after t ss) ≡ plays (history t ss) (view t)
  pub legal : (t : Table) (ss : List (List ℕ)) → WellFormed t → AllBytes ss → Legal (history t ss) (view t)
  -- only that task's entry is rewritten: a task that neither departed nor entered has its entry as it was
  pub others : (t : Table) (k : ℕ) (ss : List (List ℕ)) → WellFormed t → AllBytes ss
      → departed_of k t ss ≡ 0 → entered_of k (history t ss) ≡ 0 → task_at (after t ss).tasks k ≡ task_at t.tasks k
  -- 01 where the time aimed at has come, and 00 where a request for the caller is queued: the plan, and the history of
  -- an accepted record
  pub restarts : (t : Table) (p n : ℕ) → WellFormed t → 0 < t.ready
      → (aim_at (task_at t.tasks (caller t).0).start t.rest.clock p n).0 ≤ t.rest.clock.0 → Restarts (restart_plan t p n) t
  pub begins-again : (t : Table) → WellFormed t → 0 < t.ready
      → place_of (caller t).0 (requests t.rest) < length (requests t.rest) → Restarts (terminate_plan t) t
  pub restarts-by : (t : Table) (p n : ℕ) → (step_of t (0x01 ∷ p ∷ n ∷ [])).answer.number ≡ 0
      → (aim_at (task_at t.tasks (caller t).0).start t.rest.clock p n).0 ≤ t.rest.clock.0
      → RestartsBy (0x01 ∷ p ∷ n ∷ []) t
  pub begins-again-by : (t : Table) → (step_of t (0x00 ∷ [])).answer.number ≡ 0
      → place_of (caller t).0 (requests t.rest) < length (requests t.rest) → RestartsBy (0x00 ∷ []) t
  -- any two outcomes that a public entry's contract allows are equal: the answer and every field of the table
  pub step-determined : (t : Table) (s : List ℕ) (x y : Outcome) → Steps t s x → Steps t s y → x ≡ y
  pub step-call-determined : (t : Table) (c : Call) (x y : Outcome) → StepsCall t c x → StepsCall t c y → x ≡ y
  pub check_determined : (t : Table) (x y : ℕ) → Checked t x → Checked t y → x ≡ y
  pub fresh-determined : (s : List ℕ) (x y : Fresh) → Makes s x → Makes s y → x ≡ y
  pub no-table-determined : (x y : Answer) → IsNoTable x → IsNoTable y → x ≡ y
  pub length-determined : (s : List ℕ) (x y : ℕ) → Measures s x → Measures s y → x ≡ y
