-- Every cause given is true, and the only one (`holds_of`, `only`); whom a task waits on is a task of the table.
use Prim.Native.Nat.{ℕ, zero, suc, ◌+◌, ◌-◌, ◌≤◌, ◌<◌}
use mathlib.Core.Path.{◌≡◌, refl, sym, ap, ap₂, ◌∙◌}
use mathlib.Core.Bool.{Bool, true, false}
use mathlib.Core.List.{List, [], ◌∷◌}
use native.Mathlib.Omega.{arith}
use borrow.Author.Tests.{leb-true, leb-false, le-leb, lt-leb, eqb-true, eqb-false, eq-eqb, ne_eqb}
use lib.Dec.{eqb, leb}
use lib.ListN.{length, get_or, get_or-eq_default}
use Rattle.records.specs.declared.TaskNo.{TaskNo}
use Rattle.executive.specs.declared.State.{State}
use Rattle.executive.specs.declared.State.TheVariants as state
use Rattle.executive.specs.declared.Task.{Task}
use Rattle.executive.specs.declared.Request.{Request}
use Rattle.executive.specs.declared.Table.{Table}
use Rattle.executive.specs.Lists.{one, sum_of}
use Rattle.executive.specs.Queue.{Item, count, ahead, active_of}
use Rattle.executive.specs.Places.{no_task, no_request, task_at}
use Rattle.executive.specs.Pool.{requests}
use Rattle.executive.specs.States.{ready, await_start, await_end, is}
use Rattle.executive.specs.Table.{view}
use Rattle.executive.specs.WellFormed.{WellFormed, starts_of, ends_of, runs_of}
use Rattle.why.specs.declared.Cause.{Cause}
use Rattle.why.specs.declared.Cause.TheVariants as cause
use Rattle.why.specs.Causes.{state_at, waiter_of, named_at, run_at, target_at, missing, ready_cause, cause_in, cause_of, NamedBy, Holds}
use Rattle.why.proofs.Searching.{decide, next-from, next-passes, some_next, passes-some, passes-once}
use Rattle.why.proofs.Causing.{target_is}
use Rattle.why.proofs.Masks.{missing-is, missing-only}

-- ---- the head of a queue
pub nought : (n : ℕ) → (n ≡ 0 → ⊥) → 0 < n
nought zero f = absurd (f refl)
nought (suc n) f = omega arith

head_of : (k : ℕ) (q : List Item) → 0 < count k q → ahead k q ≡ 0 → active_of q ≡ k
unfolding count ahead active_of
head_of k [] h e = absurd (omega arith)
head_of k (x ∷ xs) h e = decide (eqb k x.task) (λ f. sym (eqb-true k x.task f)) (λ f. absurd (let z : suc (ahead k xs) ≡ 0 = rw f at e in omega arith))

of-head : (k : ℕ) (q : List Item) → 0 < count k q → active_of q ≡ k → ahead k q ≡ 0
unfolding count ahead active_of
of-head k [] h e = absurd (omega arith)
of-head k (x ∷ xs) h e = rw (eq-eqb k x.task (sym e)) refl

-- ---- where the requests rs name k by w, at most once and in the way that the test `named` looks for it
module _ (w : Request → TaskNo) (at_start : Bool) (k : ℕ) (rs : List Request) (same : (r : Request) → waiter_of at_start r ≡ (w r).0) where
  abbrev test : Request → Bool
  test r = eqb k (waiter_of at_start r)

  abbrev times : ℕ
  times = sum_of (λ (r : Request). one (test r)) rs

  abbrev place : ℕ
  place = named_at at_start k rs

  -- some request does: the one found
  pub named-there : place ≤ length rs → NamedBy w rs k place (target_at place rs)
  unfolding named_at
  named-there h =
      let f = (next-from test no_request 1 rs).0 in
      let y = next-passes test no_request 1 rs (omega arith) in
      record {
        from = omega arith;
        to = h;
        waiter = sym (same (get_or rs (place - 1) no_request)) ∙ sym (eqb-true k (waiter_of at_start (get_or rs (place - 1) no_request)) y);
        target = target_is rs place (omega arith);
      }

  pub named_some : 0 < times → place ≤ length rs
  unfolding named_at
  named_some h = omega (arith, some_next test no_request 1 rs h)

  passing-at : (p : ℕ) (j : TaskNo) → NamedBy w rs k p j → test (get_or rs (p - 1) no_request) ≡ true
  passing-at p j n = eq-eqb k _ (sym (same (get_or rs (p - 1) no_request) ∙ n.waiter))

  pub named-times : (p : ℕ) (j : TaskNo) → NamedBy w rs k p j → 0 < times
  named-times p j n = passes-some test no_request rs (p - 1) (omega (arith, n.from, n.to)) (passing-at p j n)

  -- and no other
  pub named-only : times ≤ 1 → (p : ℕ) (j : TaskNo) → NamedBy w rs k p j → (p ≡ place) × (j ≡ target_at place rs)
  unfolding named_at
  named-only m p j n =
      let h = named-there (named_some (named-times p j n)) in
      let e : p - 1 ≡ place - 1 = passes-once test no_request rs (p - 1) (place - 1) m (omega (arith, n.from, n.to)) (omega (arith, h.from, h.to)) (passing-at p j n) (passing-at place (target_at place rs) h) in
      let f : p ≡ place = omega (arith, n.from, h.from) in
      (f, sym n.target ∙ ap (λ i. (get_or rs i no_request).target) e ∙ h.target)

-- ---- the runs that name k
module _ (k : ℕ) (ts : List Task) where
  abbrev runs : Task → Bool
  runs e = eqb k e.end_waiter.0

  task-is : (j : ℕ) → 0 < j → task_at ts j ≡ get_or ts (j - 1) no_task
  unfolding task_at
  task-is zero h = absurd (omega arith)
  task-is (suc i) h = let z : suc i - 1 ≡ i = omega arith in ap (λ n. get_or ts n no_task) (sym z)

  no-task : task_at ts 0 ≡ no_task
  unfolding task_at
  no-task = refl

  pub run-there : 0 < runs_of k ts → (task_at ts (run_at k ts)).end_waiter.0 ≡ k
  unfolding run_at
  run-there h =
      let b = (next-from runs no_task 1 ts).0 in
      let y = next-passes runs no_task 1 ts (some_next runs no_task 1 ts h) in
      ap (λ (e : Task). e.end_waiter.0) (task-is (run_at k ts) (omega arith)) ∙ sym (eqb-true k _ y)

  module _ (pos : 0 < k) (j : ℕ) (e : (task_at ts j).end_waiter.0 ≡ k) where
    pub run_pos : 0 < j
    run_pos = nought j (λ z. absurd (omega (arith, sym e ∙ ap (λ n. (task_at ts n).end_waiter.0) z ∙ ap (λ (x : Task). x.end_waiter.0) no-task)))

    run_in : j - 1 < length ts
    run_in = decide (leb (length ts) (j - 1))
        (λ h. absurd (omega (arith, sym e ∙ ap (λ (x : Task). x.end_waiter.0) (task-is j run_pos ∙ get_or-eq_default ts no_task {n = j - 1} (leb-true (length ts) (j - 1) h)))))
        (λ h. leb-false (length ts) (j - 1) h)

    run-at : runs (get_or ts (j - 1) no_task) ≡ true
    run-at = eq-eqb k _ (sym (ap (λ (x : Task). x.end_waiter.0) (sym (task-is j run_pos)) ∙ e))

    pub run-times : 0 < runs_of k ts
    run-times = passes-some runs no_task ts (j - 1) run_in run-at

    pub run_only : runs_of k ts ≤ 1 → j ≡ run_at k ts
    unfolding run_at
    run_only m =
        let b = (next-from runs no_task 1 ts).0 in
        let s = some_next runs no_task 1 ts run-times in
        let y = next-passes runs no_task 1 ts s in
        let q : j - 1 ≡ run_at k ts - 1 = passes-once runs no_task ts (j - 1) (run_at k ts - 1) m run_in (omega arith) run-at y in
        omega (arith, run_pos)

-- ---- the cause of a task k, whatever the table's state of it
module _ (t : Table) (w : WellFormed t) (k : ℕ) (pos : 0 < k) where
  abbrev rs : List Request
  rs = requests t.rest

  start-same : (r : Request) → waiter_of true r ≡ r.start_waiter.0
  start-same r = refl

  end_same : (r : Request) → waiter_of false r ≡ r.end_waiter.0
  end_same r = refl

  -- how often k is named, by its state
  counted : state_at t k ≡ state.Ready → count k (view t) ≡ 1
  counted e = w.queue.exactly.exact k ∙ ap (is ready) e

  starts : state_at t k ≡ state.AwaitStart → starts_of k rs ≡ 1
  starts e = w.waiters.starts k pos ∙ ap (is await_start) e

  ends : state_at t k ≡ state.AwaitEnd → ends_of k rs + runs_of k t.tasks ≡ 1
  ends e = w.waiters.ends k pos ∙ ap (is await_end) e

  -- a task that waits for an end, where no request names it
  no-request : ends_of k rs ≡ 0 → length rs < named_at false k rs
  no-request z =
      decide (leb (named_at false k rs) (length rs))
      (λ h. absurd (omega (arith, named-times (λ r. r.end_waiter) false k rs end_same _ _ (named-there (λ r. r.end_waiter) false k rs end_same (leb-true (named_at false k rs) (length rs) h)))))
      (λ h. leb-false (named_at false k rs) (length rs) h)

  holds_in : (s : State) → state_at t k ≡ s → Holds t k (cause_in t k s)
  holds_in state.Dormant e = e
  holds_in state.Ready e =
      decide (eqb (ahead k (view t)) 0)
      (λ z. rw z (e, head_of k (view t) (omega (arith, counted e)) (eqb-true (ahead k (view t)) 0 z)))
      (λ z. rw z (e, (refl, nought (ahead k (view t)) (eqb-false (ahead k (view t)) 0 z))))
  holds_in (state.Paused at) e = e
  holds_in (state.Due at) e = e
  holds_in (state.Flags m mask) e = (mask, (e, missing-is t.rest.flags mask))
  holds_in state.AwaitStart e =
      (e, named-there (λ r. r.start_waiter) true k rs start-same (named_some (λ r. r.start_waiter) true k rs start-same (omega (arith, starts e))))
  holds_in state.AwaitEnd e =
      decide (leb (named_at false k rs) (length rs))
      (λ h. rw h (e, named-there (λ r. r.end_waiter) false k rs end_same (leb-true (named_at false k rs) (length rs) h)))
      (λ h. rw h (e, run-there k t.tasks (run h)))
    where
      run : leb (named_at false k rs) (length rs) ≡ false → 0 < runs_of k t.tasks
      run h =
          decide (leb (ends_of k rs) 0)
          (λ z. omega (arith, ends e, leb-true (ends_of k rs) 0 z))
          (λ z. absurd (omega (arith, named_some (λ r. r.end_waiter) false k rs end_same (leb-false (ends_of k rs) 0 z), leb-false (named_at false k rs) (length rs) h)))
  holds_in (state.AwaitSub m) e = (e, refl)
  holds_in (state.AwaitMessage s) e = e

  pub holds_of : Holds t k (cause_of t k)
  unfolding cause_of
  holds_of = holds_in (state_at t k) refl

  -- ---- and no other
  cause-is : (s : State) → state_at t k ≡ s → cause_in t k s ≡ cause_of t k
  unfolding cause_of
  cause-is s e = ap (cause_in t k) (sym e)

  pub only : (c : Cause) → Holds t k c → c ≡ cause_of t k
  only cause.Dormant h = cause-is state.Dormant h
  only cause.Active h =
      let z = of-head k (view t) (omega (arith, counted h.0)) h.1 in
      sym (ap ready_cause z) ∙ cause-is state.Ready h.0
  only (cause.Ready n) h =
      let z = ne_eqb n 0 (λ e. omega (arith, h.1.1)) in
      let y : ready_cause n ≡ cause.Ready n = rw z refl in
      sym y ∙ ap ready_cause (sym h.1.0) ∙ cause-is state.Ready h.0
  only (cause.Paused at) h = cause-is (state.Paused at) h
  only (cause.Due at) h = cause-is (state.Due at) h
  only (cause.Flags m x) h =
      ap (cause.Flags m) (missing-only t.rest.flags h.0 x (missing t.rest.flags h.0) h.1.1 (missing-is t.rest.flags h.0))
      ∙ cause-is (state.Flags m h.0) h.1.0
  only (cause.Start p j) h =
      let n = named-only (λ r. r.start_waiter) true k rs start-same (omega (arith, starts h.0)) p j h.1 in
      ap₂ cause.Start n.0 n.1 ∙ cause-is state.AwaitStart h.0
  only (cause.EndOfRequest p j) h =
      let m = named-times (λ r. r.end_waiter) false k rs end_same p j h.1 in
      let n = named-only (λ r. r.end_waiter) false k rs end_same (omega (arith, ends h.0)) p j h.1 in
      let l = named_some (λ r. r.end_waiter) false k rs end_same m in
      let y : cause_in t k state.AwaitEnd ≡ cause.EndOfRequest (named_at false k rs) (target_at (named_at false k rs) rs) = rw (le-leb (named_at false k rs) (length rs) l) refl in
      ap₂ cause.EndOfRequest n.0 n.1 ∙ sym y ∙ cause-is state.AwaitEnd h.0
  only (cause.EndOfRun j) h =
      let m = run-times k t.tasks pos j.0 h.1 in
      let n = run_only k t.tasks pos j.0 h.1 (omega (arith, ends h.0)) in
      let l = no-request (omega (arith, ends h.0)) in
      let y : cause_in t k state.AwaitEnd ≡ cause.EndOfRun (record { 0 = run_at k t.tasks }) = rw (lt-leb (named_at false k rs) (length rs) l) refl in
      ap (λ i. cause.EndOfRun (record { 0 = i })) n ∙ sym y ∙ cause-is state.AwaitEnd h.0
  only (cause.Subprogram m j) h = ap (cause.Subprogram m) (sym h.1) ∙ cause-is (state.AwaitSub m) h.0
  only (cause.Message s) h = cause-is (state.AwaitMessage s) h
