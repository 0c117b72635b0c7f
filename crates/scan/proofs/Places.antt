-- The entries by task number: what is read after a store, and that the tasks' own entries follow.
use Prim.Native.Nat.{ℕ, zero, suc, ◌+◌, ◌≤◌, ◌<◌}
use mathlib.Core.Path.{◌≡◌, refl, sym, ap, ◌∙◌}
use mathlib.Core.Bool.{false}
use mathlib.Core.List.{List}
use native.Mathlib.Omega.{arith}
use borrow.Author.Tests.{eqb-false, ltb-true, ltb-false}
use lib.Dec.{eqb, ltb}
use lib.ListN.{length, length-set, get_or-eq_default}
use lib.Seq.{get_or-set_same, get_or-set_other}
use Rattle.executive.specs.Lists.{sum_of}
use Rattle.executive.specs.Places.{task_at, put_at}
use Rattle.scan.specs.declared.Entry.{Entry}
use Rattle.scan.specs.Entries.{no_entry, task_of, tasks_in, entry_at, put_entry, is_ready}
use Rattle.scan.specs.Choosing.{IsReady}
use Rattle.scan.proofs.Basics.{never, decide, sum-set, sum-at, sum-zero, map_at, map-set, map-long}

-- a number that names an entry
abbrev pub Has : List Entry → ℕ → Type 0
Has es k = (0 < k) × (k ≤ length es)

pub at_same : (es : List Entry) (k : ℕ) (x : Entry) → Has es k → entry_at (put_entry es k x) k ≡ x
unfolding entry_at put_entry
at_same es zero x n = absurd (omega (arith, n.0))
at_same es (suc i) x n = get_or-set_same es i x no_entry (omega (arith, n.1))

pub at_other : (es : List Entry) (j k : ℕ) (x : Entry) → eqb k j ≡ false → entry_at (put_entry es j x) k ≡ entry_at es k
unfolding entry_at put_entry
at_other es zero k x h = refl
at_other es (suc i) zero x h = refl
at_other es (suc i) (suc j) x h = get_or-set_other es i j x no_entry (λ e. eqb-false (suc j) (suc i) h (ap suc e))

pub put_length : (es : List Entry) (k : ℕ) (x : Entry) → length (put_entry es k x) ≡ length es
unfolding put_entry
put_length es zero x = refl
put_length es (suc i) x = length-set es i x

-- a ready task has an entry
pub ready-has : (es : List Entry) (k : ℕ) → IsReady es k → Has es k
unfolding entry_at
ready-has es zero h = never h
ready-has es (suc i) h = decide (ltb i (length es)) (λ e. (omega arith, omega (arith, ltb-true i (length es) e)))
    (λ e. never (sym (ap is_ready (get_or-eq_default es no_entry {n = i} (ltb-false i (length es) e))) ∙ h))

-- ---- the tasks' own entries
pub tasks-at : (es : List Entry) (k : ℕ) → task_at (tasks_in es) k ≡ (entry_at es k).task
unfolding task_at entry_at
tasks-at es zero = refl
tasks-at es (suc i) = map_at task_of es i no_entry

pub tasks_put : (es : List Entry) (k : ℕ) (x : Entry) → tasks_in (put_entry es k x) ≡ put_at (tasks_in es) k x.task
unfolding put_at put_entry
tasks_put es zero x = refl
tasks_put es (suc i) x = map-set task_of es i x

pub tasks-length : (es : List Entry) → length (tasks_in es) ≡ length es
tasks-length es = map-long task_of es

-- ---- sums over the entries
module _ (f : Entry → ℕ) (es : List Entry) where
  pub sum_put : (k : ℕ) (x : Entry) → Has es k → sum_of f (put_entry es k x) + f (entry_at es k) ≡ sum_of f es + f x
  unfolding put_entry entry_at
  sum_put zero x n = absurd (omega (arith, n.0))
  sum_put (suc i) x n = sum-set f es i x no_entry (omega (arith, n.1))

  pub sum-entry : (k : ℕ) → Has es k → f (entry_at es k) ≤ sum_of f es
  unfolding entry_at
  sum-entry zero n = absurd (omega (arith, n.0))
  sum-entry (suc i) n = sum-at f es i no_entry (omega (arith, n.1))

  pub sum-none : ((k : ℕ) → f (entry_at es k) ≡ 0) → sum_of f es ≡ 0
  unfolding entry_at
  sum-none h = sum-zero f es no_entry (λ i. h (suc i))
