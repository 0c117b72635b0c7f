-- Blank entries and blank places behind a line: what the check finds is what the rule says, both ways.
use Prim.Native.Nat.{ℕ, zero, suc, ◌+◌, ◌-◌, ◌<◌}
use mathlib.Core.Path.{◌≡◌, refl, ap}
use mathlib.Core.Bool.{Bool, true}
use mathlib.Core.List.{List, [], ◌∷◌}
use native.Mathlib.Omega.{arith}
use borrow.Author.Tests.{eqb-true, eq-eqb}
use lib.Dec.{eqb}
use lib.ListN.{length, take, drop, get_or}
use lib.Seq.{get_or-drop}
use Rattle.records.specs.declared.TaskNo.{TaskNo}
use Rattle.executive.specs.declared.State.TheVariants.{Dormant}
use Rattle.executive.specs.declared.Task.{Task}
use Rattle.executive.specs.declared.Request.{Request}
use Rattle.executive.specs.Places.{nobody, no_task, no_request, task_at}
use Rattle.executive.specs.Lists.{pad, all_of}
use Rattle.executive.specs.States.{is_dormant}
use Rattle.executive.specs.WellFormed.{Zeros}
use Rattle.executive.specs.Check.{is_zero, is_blank, is_nobody, is_free}
use Rattle.executive.proofs.states.Laws.{dormant-is}
use Rattle.executive.proofs.Lists.Loops.{both, every_get, every_make}
use Rattle.executive.proofs.Lists.Tests.{and_true, true_and}

-- a list is laid out with blanks behind its first n exactly if all behind these pass the test for a blank
module _ {A : Type 0} (f : A → Bool) (d : A) where
  pub blank-pad : ((x : A) → f x ≡ true → x ≡ d) → (m n : ℕ) (q : List A) → length q ≡ m → all_of f (drop n q) ≡ true → q ≡ pad m d (take n q)
  unfolding pad all_of
  blank-pad is zero zero [] l b = refl
  blank-pad is zero (suc n) [] l b = refl
  blank-pad is zero n (x ∷ q) l b = absurd (omega arith)
  blank-pad is (suc m) n [] l b = absurd (omega arith)
  blank-pad is (suc m) zero (x ∷ q) l b =
      let p = both (f x) (all_of f q) b in
      let e : x ≡ d = is x p.0 in
      let r : q ≡ pad m d [] = blank-pad is m 0 q (omega arith) p.1 in
      λ i. e i ∷ r i
  blank-pad is (suc m) (suc n) (x ∷ q) l b = ap (λ (r : List A). x ∷ r) (blank-pad is m n q (omega arith) b)

  pub pad-blank : f d ≡ true → (m n : ℕ) (q : List A) → length q ≡ m → q ≡ pad m d (take n q) → all_of f (drop n q) ≡ true
  unfolding pad all_of
  pad-blank z zero zero [] l e = refl
  pad-blank z zero (suc n) [] l e = refl
  pad-blank z zero n (x ∷ q) l e = absurd (omega arith)
  pad-blank z (suc m) n [] l e = absurd (omega arith)
  pad-blank z (suc m) zero (x ∷ q) l e =
      let p : x ≡ d = cc in
      let r : q ≡ pad m d [] = cc in
      rw (p, z) (pad-blank z m 0 q (omega arith) r)
  pad-blank z (suc m) (suc n) (x ∷ q) l e =
      let r : q ≡ pad m d (take n q) = cc in
      pad-blank z m n q (omega arith) r

pub nobody-is : (k : TaskNo) → is_nobody k ≡ true → k ≡ nobody
nobody-is k e = let p = eqb-true k.0 0 e in λ i. record { 0 = p i }

pub zero_is : (e : Task) → is_zero e ≡ true → Zeros e
zero_is e h =
    let a = and_true (eqb e.priority 0) _ h in
    let b = and_true (eqb e.argument 0) _ a.1 in
    let d = and_true (eqb e.start.0 0) _ b.1 in
    record { priority = eqb-true _ _ a.0; argument = eqb-true _ _ b.0; start = eqb-true _ _ d.0; waiter = eqb-true _ _ d.1 }

pub is-zero : (e : Task) → Zeros e → is_zero e ≡ true
is-zero e z =
    true_and (eqb e.priority 0) _ (eq-eqb _ _ z.priority)
    (true_and (eqb e.argument 0) _ (eq-eqb _ _ z.argument) (true_and (eqb e.start.0 0) _ (eq-eqb _ _ z.start) (eq-eqb _ _ z.waiter)))

pub blank-is : (e : Task) → is_blank e ≡ true → e ≡ no_task
blank-is e h =
    let a = and_true (is_dormant e.state) _ h in
    let b = and_true (eqb e.own 0) _ a.1 in
    let o : e.own ≡ 0 = eqb-true _ _ b.0 in
    let s : e.state ≡ Dormant = dormant-is e.state a.0 in
    let z = zero_is e b.1 in
    λ i. record { own = o i; state = s i; priority = z.priority i; argument = z.argument i; start = record { 0 = z.start i }; end_waiter = record { 0 = z.waiter i } }

pub free-is : (r : Request) → is_free r ≡ true → r ≡ no_request
free-is r h =
    let a = and_true (eqb r.target.0 0) _ h in
    let b = and_true (eqb r.priority 0) _ a.1 in
    let d = and_true (eqb r.argument 0) _ b.1 in
    let e = and_true (eqb r.start_waiter.0 0) _ d.1 in
    let t : r.target.0 ≡ 0 = eqb-true _ _ a.0 in
    let p : r.priority ≡ 0 = eqb-true _ _ b.0 in
    let g : r.argument ≡ 0 = eqb-true _ _ d.0 in
    let s : r.start_waiter.0 ≡ 0 = eqb-true _ _ e.0 in
    let f : r.end_waiter.0 ≡ 0 = eqb-true _ _ e.1 in
    λ i. record { target = record { 0 = t i }; priority = p i; argument = g i; start_waiter = record { 0 = s i }; end_waiter = record { 0 = f i } }

-- a test of every task: of each entry, and of what a number reads that is no task's
module _ (f : Task → Bool) (ts : List Task) where
  pub tasks-get : f no_task ≡ true → all_of f ts ≡ true → (k : ℕ) → f (task_at ts k) ≡ true
  unfolding task_at
  tasks-get z a zero = z
  tasks-get z a (suc i) = every_get f no_task ts z a i

  pub tasks_make : ((k : ℕ) → f (task_at ts k) ≡ true) → all_of f ts ≡ true
  unfolding task_at
  tasks_make h = every_make f no_task ts (λ i. h (suc i))

-- the entries past the first n
module _ (ts : List Task) (n : ℕ) where
  pub past-get : all_of is_blank (drop n ts) ≡ true → (k : ℕ) → n < k → task_at ts k ≡ no_task
  unfolding task_at
  past-get a zero h = absurd (omega arith)
  past-get a (suc i) h =
      let z : n + (i - n) ≡ i = omega arith in
      let b : is_blank (get_or (drop n ts) (i - n) no_task) ≡ true = every_get is_blank no_task (drop n ts) refl a (i - n) in
      blank-is (get_or ts i no_task) (rw (get_or-drop n ts (i - n) no_task, z) at b)

  pub past_make : ((k : ℕ) → n < k → task_at ts k ≡ no_task) → all_of is_blank (drop n ts) ≡ true
  unfolding task_at
  past_make h = every_make is_blank no_task (drop n ts) (λ i. rw (get_or-drop n ts i no_task, h (suc (n + i)) (omega arith)) refl)
