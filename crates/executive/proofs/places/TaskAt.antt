-- What `task_at` and `put_at` are at a number that is none or a task's, at its place, and after a store.
use Prim.Native.Nat.{ℕ, zero, suc, ◌-◌, ◌≤◌, ◌<◌, ◌+◌}
use mathlib.Core.Path.{◌≡◌, refl, sym, ◌∙◌}
use mathlib.Core.Bool.{Bool, true, false, cond}
use mathlib.Core.List.{List}
use native.Mathlib.Omega.{arith}
use borrow.Author.Tests.{lt-ltb, le-ltb, ltb-true, ltb-false}
use lib.Dec.{ltb, eqb, eqb→eq}
use lib.ListN.{length, get_or, set, length-set, get_or-eq_default}
use lib.Seq.{set_out, get_or-set_same, get_or-set_other}
use Rattle.executive.specs.declared.Task.{Task}
use Rattle.executive.specs.Places.{priority_at, no_task, task_at, put_at, entry_place, Names}
use Rattle.executive.specs.Lists.{sum_of}
use Rattle.executive.proofs.Lists.Tests.{So-of_true, eqb_no}
use Rattle.executive.proofs.Lists.Sums.{sum-set}

-- the place of a number, as it is worked out
pub place_none : (n : ℕ) → n ≡ 0 → 16 ≡ entry_place n
unfolding entry_place
place_none n e = rw e refl

pub place-past : (n : ℕ) → 16 < n → 16 ≡ entry_place n
unfolding entry_place
place-past zero h = absurd (omega arith)
place-past (suc i) h = rw (le-ltb i 16 (omega arith)) refl

pub place-task : (n : ℕ) → 0 < n → n ≤ 16 → n - 1 ≡ entry_place n
unfolding entry_place
place-task zero h l = absurd (omega arith)
place-task (suc i) h l = rw (lt-ltb i 16 (omega arith)) (omega arith)

pub ruleset places = (place_none, place-past, place-task)

pub place-low : (n : ℕ) → entry_place n ≤ 16
unfolding entry_place
place-low zero = omega arith
place-low (suc i) = go (ltb i 16) refl
  where
    go : (b : Bool) → ltb i 16 ≡ b → cond b i 16 ≤ 16
    go true h = omega (arith, ltb-true i 16 h)
    go false h = omega arith

-- what lies at a number's place of sixteen, and what is put there
module _ {A : Type 0} (xs : List A) (l : length xs ≡ 16) (i : ℕ) where
  pub read-place : (d : A) → get_or xs i d ≡ get_or xs (cond (ltb i 16) i 16) d
  read-place d = go (ltb i 16) refl
    where
      go : (b : Bool) → ltb i 16 ≡ b → get_or xs i d ≡ get_or xs (cond b i 16) d
      go true h = refl
      go false h = get_or-eq_default xs d {n = i} (omega (arith, ltb-false i 16 h)) ∙ sym (get_or-eq_default xs d {n = 16} (omega arith))

  pub set-place : (x : A) → set xs i x ≡ set xs (cond (ltb i 16) i 16) x
  set-place x = go (ltb i 16) refl
    where
      go : (b : Bool) → ltb i 16 ≡ b → set xs i x ≡ set xs (cond b i 16) x
      go true h = refl
      go false h = set_out xs i x (omega (arith, ltb-false i 16 h)) ∙ sym (set_out xs 16 x (omega arith))

module _ (ts : List Task) where
  pub at_none : (n : ℕ) → n ≡ 0 → task_at ts n ≡ no_task
  unfolding task_at
  at_none n e = rw e refl

  pub at-task : (n : ℕ) → 0 < n → task_at ts n ≡ get_or ts (n - 1) no_task
  unfolding task_at
  at-task zero h = absurd (omega arith)
  at-task (suc i) h = let z : suc i - 1 ≡ i = omega arith in rw z refl

  module _ (l : length ts ≡ 16) where
    pub at_place : (n : ℕ) → task_at ts n ≡ get_or ts (entry_place n) no_task
    unfolding task_at entry_place
    at_place zero = sym (get_or-eq_default ts no_task {n = 16} (omega arith))
    at_place (suc i) = read-place ts l i no_task

    pub at-no-place : (n k : ℕ) → k ≡ entry_place n → 15 < k → task_at ts n ≡ no_task
    at-no-place n k e h = at_place n ∙ rw (← e) (get_or-eq_default ts no_task {n = k} (omega arith))

    pub put_place : (e : Task) (n : ℕ) → put_at ts n e ≡ set ts (entry_place n) e
    unfolding put_at entry_place
    put_place e zero = sym (set_out ts 16 e (omega arith))
    put_place e (suc i) = set-place ts l i e

    pub put_no-place : (e : Task) (n k : ℕ) → k ≡ entry_place n → 15 < k → put_at ts n e ≡ ts
    put_no-place e n k z h = put_place e n ∙ rw (← z) (set_out ts k e (omega arith))

-- the priority that an entry has once it is put in place
pub priority_put : (ts : List Task) (e : Task) → length ts ≡ 16 → (n : ℕ) → priority_at n e.priority ≡ (task_at (put_at ts n e) n).priority
unfolding priority_at entry_place task_at put_at
priority_put ts e l zero = refl
priority_put ts e l (suc i) = go (ltb i 16) refl
  where
    go : (b : Bool) → ltb i 16 ≡ b → cond (ltb (cond b i 16) 16) e.priority 0 ≡ (get_or (set ts i e) i no_task).priority
    go true h = rw (h, get_or-set_same ts i e no_task (omega (arith, ltb-true i 16 h))) refl
    go false h = rw (get_or-eq_default (set ts i e) no_task {n = i} (omega (arith, ltb-false i 16 h, length-set ts i e))) refl

-- ---- the entry of a task after a store
pub at_same : (ts : List Task) (k : ℕ) (e : Task) → Names k ts → task_at (put_at ts k e) k ≡ e
unfolding task_at put_at
at_same ts zero e n = absurd (omega (arith, n.0))
at_same ts (suc i) e n = get_or-set_same ts i e no_task (omega (arith, n.1))

pub at_other : (ts : List Task) (j k : ℕ) (e : Task) → eqb k j ≡ false → task_at (put_at ts j e) k ≡ task_at ts k
unfolding task_at put_at
at_other ts zero k e h = refl
at_other ts (suc i) zero e h = refl
at_other ts (suc i) (suc j) e h = get_or-set_other ts i j e no_task (omega (arith, eqb_no (suc j) (suc i) h))

pub sum_put : (f : Task → ℕ) (ts : List Task) (k : ℕ) (e : Task) → Names k ts → sum_of f (put_at ts k e) + f (task_at ts k) ≡ sum_of f ts + f e
unfolding task_at put_at
sum_put f ts zero e n = absurd (omega (arith, n.0))
sum_put f ts (suc i) e n = sum-set f ts i e no_task (omega (arith, n.1))

pub put_length : (ts : List Task) (k : ℕ) (e : Task) → length (put_at ts k e) ≡ length ts
unfolding put_at
put_length ts zero e = refl
put_length ts (suc i) e = length-set ts i e

-- what any reading of a task says after a store
pub put-at : {B : Type 0} (f : Task → B) (ts : List Task) (j k : ℕ) (e : Task) → Names j ts → f (task_at (put_at ts j e) k) ≡ cond (eqb k j) (f e) (f (task_at ts k))
put-at f ts j k e n = go (eqb k j) refl
  where
    go : (b : Bool) → eqb k j ≡ b → f (task_at (put_at ts j e) k) ≡ cond b (f e) (f (task_at ts k))
    go true h = rw (eqb→eq k j (So-of_true (eqb k j) h), at_same ts j e n)
    go false h = rw (at_other ts j k e h)

-- for the code: these, taken together
pub ruleset entries = (at_place, at-no-place, put_place, put_no-place)
