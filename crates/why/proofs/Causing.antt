-- The laws of a task's cause: the request at a place, the queue as it is looked at, the flags that are missing.
use Prim.Native.Nat.{ℕ, zero, suc, ◌+◌, ◌-◌, ◌≤◌, ◌<◌}
use mathlib.Core.Path.{◌≡◌, refl, sym, ap, ◌∙◌}
use mathlib.Core.List.{List, [], ◌∷◌}
use native.Mathlib.Omega.{arith}
use native.Mathlib.Numerals.{add-one}
use lib.Dec.{eqb}
use lib.ListN.{length, get_or, take, get_or-eq_default}
use lib.Seq.{get_or-take}
use Rattle.records.specs.declared.TaskNo.{TaskNo}
use Rattle.executive.specs.declared.State.{State}
use Rattle.executive.specs.declared.Table.{Table}
use Rattle.executive.specs.declared.Task.{Task}
use Rattle.executive.specs.declared.Request.{Request}
use Rattle.executive.specs.Lists.{next_of}
use Rattle.executive.specs.Queue.{ahead}
use Rattle.executive.specs.Table.{items}
use Rattle.executive.specs.Places.{nobody, no_request, task_at}
use Rattle.why.specs.declared.Cause.{Cause}
use Rattle.why.specs.Causes.{ahead_in, target_at, cause_in, cause_of}
use Rattle.why.proofs.Searching.{decide}

-- ---- the task of the request at a place
module _ (rs : List Request) where
  pub target_past : (p : ℕ) → length rs < p → nobody ≡ target_at p rs
  unfolding target_at
  target_past zero h = refl
  target_past (suc i) h = ap (λ (r : Request). r.target) (sym (get_or-eq_default rs no_request {n = i} (omega arith)))

  pub target_is : (p : ℕ) → 0 < p → (get_or rs (p - 1) no_request).target ≡ target_at p rs
  unfolding target_at
  target_is zero h = absurd (omega arith)
  target_is (suc i) h = let z : suc i - 1 ≡ i = omega arith in ap (λ n. (get_or rs n no_request).target) z

  pub target_next : (i : ℕ) → (get_or rs i no_request).target ≡ target_at (i + 1) rs
  unfolding target_at
  target_next i = rw (add-one i) refl

-- in an array of which n places are taken
pub target_none : (rs : List Request) → nobody ≡ target_at 0 rs
unfolding target_at
target_none rs = refl

pub target_in : (l : List Request) (n p : ℕ) → 0 < p → p ≤ n → (get_or l (p - 1) no_request).target ≡ target_at p (take n l)
target_in l n p h g = ap (λ (r : Request). r.target) (sym (get_or-take n l (p - 1) no_request (omega arith))) ∙ target_is (take n l) p h

-- ---- the queue of items is looked at by the numbers alone
next-suc : (k b : ℕ) (q : List TaskNo) → next_of (λ (x : TaskNo). eqb k x.0) (suc b) q ≡ suc (next_of (λ (x : TaskNo). eqb k x.0) b q)
unfolding next_of
next-suc k b [] = refl
next-suc k b (x ∷ xs) = decide (eqb k x.0) (λ e. rw e refl) (λ e. rw e (next-suc k (suc b) xs))

pub ahead-items : (ts : List Task) (k : ℕ) (q : List TaskNo) → ahead k (items ts q) ≡ ahead_in k q
unfolding ahead items next_of
ahead-items ts k [] = refl
ahead-items ts k (x ∷ xs) = decide (eqb k x.0) (λ e. rw e refl) (λ e. rw e (ap suc (ahead-items ts k xs) ∙ sym (next-suc k 0 xs)))

-- ---- the cause of a task whose entry e is in the state s
pub cause-at : (t : Table) (k : ℕ) {e : Task} {s : State} {c : Cause} → e ≡ task_at t.tasks k → e.state ≡ s → c ≡ cause_in t k s → c ≡ cause_of t k
unfolding cause_of
cause-at t k e f h = h ∙ ap (cause_in t k) (sym f ∙ ap (λ (x : Task). x.state) e)
