-- What is promised of the answer: every reason is true and the only one; the path; its ring, exactly.
use Rattle.std.specs.Prelude.{ℕ, zero, suc, ◌-◌, ◌≤◌, ◌<◌, ◌≡◌, ◌↔◌, ◌≢◌, ◌⊎◌, true, List, eqb, length, get_or}
use Rattle.records.specs.declared.TaskNo.{TaskNo}
use Rattle.executive.specs.declared.Millis.{Millis}
use Rattle.executive.specs.declared.Table.{Table}
use Rattle.executive.specs.Lists.{one, sum_of}
use Rattle.executive.specs.WellFormed.{WellFormed}
use Rattle.executive.specs.Promises.InWords.{NoTask}
use Rattle.why.specs.declared.Cause.{Cause}
use Rattle.why.specs.declared.Step.{Step}
use Rattle.why.specs.declared.Reasons.{Reasons}
use Rattle.why.specs.Causes.{cause_of, Holds, WaitsOn}
use Rattle.why.specs.Paths.{no_step, explained, Explains, IsNoTable, path_in, ring_in}
use Rattle.why.specs.Texts.{Tells}

-- k is a task of the well-formed table t
pub record TaskOf (t : Table) (k : ℕ) : Type 0 where
  pub formed : WellFormed t
  pub some : 0 < k
  pub within : k ≤ t.rest.count

-- the path from task k, its length, the step at a place of it, and the task there
abbrev pub path_from : Table → TaskNo → List Step
path_from t k = path_in (explained t k)

abbrev pub step_at : Table → TaskNo → ℕ → Step
step_at t k i = get_or (path_from t k) i no_step

abbrev pub task_on : Table → TaskNo → ℕ → ℕ
task_on t k i = (step_at t k i).task.0

-- i leads to j in n steps of waiting; in some number of steps; in one or more
abbrev pub LeadsIn : Table → ℕ → ℕ → ℕ → Type 0
LeadsIn t zero i j = i ≡ j
LeadsIn t (suc n) i j = (m : ℕ) × (WaitsOn t i m × LeadsIn t n m j)

abbrev pub Leads : Table → ℕ → ℕ → Type 0
Leads t i j = (n : ℕ) × LeadsIn t n i j

abbrev pub LeadsOn : Table → ℕ → ℕ → Type 0
LeadsOn t i j = (n : ℕ) × LeadsIn t (suc n) i j

-- how often task j stands among some steps
abbrev pub stands_in : ℕ → List Step → ℕ
stands_in j ss = sum_of (λ (s : Step). one (eqb j s.task.0)) ss

-- where the path ends: with no ring the last waits on nobody, with a ring of r on the task r - 1 steps before it
pub record Ends (t : Table) (k : TaskNo) (n r : ℕ) : Type 0 where
  pub all : n ≡ length (path_from t k)
  pub ring : r ≤ n
  pub nobody : r ≡ 0 → (j : ℕ) → WaitsOn t (task_on t k (n - 1)) j → ⊥
  pub back : 0 < r → WaitsOn t (task_on t k (n - 1)) (task_on t k (n - r))

-- the number and V: 1 where the table is not well formed, else 6 where it has no such task, else 0
pub record Numbers (t : Table) (k : TaskNo) (r : Reasons) : Type 0 where
  pub one : (r.number ≡ 1) ↔ (WellFormed t → ⊥)
  pub six : (r.number ≡ 6) ↔ (WellFormed t × NoTask t k)
  pub nought : (r.number ≡ 0) ↔ TaskOf t k.0
  pub v : (r.v ≡ true) ↔ (r.number ≡ 6)

pub record Promises : Type 0 where
  -- the cause of each step on the path holds of its task; whatever holds of a task is its cause
  pub holds : (t : Table) (k : TaskNo) → TaskOf t k.0 → (i : ℕ) → i < length (path_from t k) → Holds t (task_on t k i) (step_at t k i).cause
  pub only : (t : Table) (k : ℕ) → TaskOf t k → (c : Cause) → Holds t k c → c ≡ cause_of t k
  -- the path begins with the task asked for; each step's task waits on the next one's; no task stands on it twice
  pub first : (t : Table) (k : TaskNo) → TaskOf t k.0 → (0 < length (path_from t k)) × (task_on t k 0 ≡ k.0)
  pub onward : (t : Table) (k : TaskNo) → TaskOf t k.0 → (i : ℕ) → suc i < length (path_from t k) → WaitsOn t (task_on t k i) (task_on t k (suc i))
  pub once : (t : Table) (k : TaskNo) → TaskOf t k.0 → (i j : ℕ) → i < j → j < length (path_from t k) → task_on t k i ≢ task_on t k j
  pub ends : (t : Table) (k : TaskNo) → TaskOf t k.0 → Ends t k (explained t k).length (explained t k).ring
  -- a task stands in the ring once exactly if the path leads to it and it leads to itself, in one step or more; else it
  -- does not stand in it at all
  pub ring-exactly : (t : Table) (k : TaskNo) → TaskOf t k.0 → (j : ℕ) → (stands_in j (ring_in (explained t k)) ≡ 1) ↔ (Leads t k.0 j × LeadsOn t j j)
  pub ring_else : (t : Table) (k : TaskNo) → TaskOf t k.0 → (j : ℕ) → (stands_in j (ring_in (explained t k)) ≡ 0) ⊎ (stands_in j (ring_in (explained t k)) ≡ 1)
  -- each number is given exactly when, and V with 6 only
  pub numbers : (t : Table) (k : TaskNo) → Numbers t k (explained t k)
  -- any two answers that the contract allows are equal
  pub determined : (t : Table) (k : TaskNo) (x y : Reasons) → Explains t k x → Explains t k y → x ≡ y
  pub no-table-determined : (x y : Reasons) → IsNoTable x → IsNoTable y → x ≡ y
  -- the text: what is answered is within the buffer, and no two outcomes are allowed
  pub told-within : (r : Reasons) (clock : Millis) (o b : List ℕ) (n : ℕ) → Tells r clock o b n → n ≤ length b
  pub told-determined : (r : Reasons) (clock : Millis) (o b c : List ℕ) (m n : ℕ) → Tells r clock o b m → Tells r clock o c n → (b ≡ c) × (m ≡ n)
