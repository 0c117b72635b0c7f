-- The links' pass as a whole: what it leaves, and that it keeps what the passes before it left.
use Prim.Native.Nat.{ℕ, zero, suc, ◌+◌, ◌≤◌, ◌<◌}
use mathlib.Core.Path.{◌≡◌, refl, sym, ap, ◌∙◌}
use mathlib.Core.Bool.{Bool, true, false}
use mathlib.Core.Logic.{◌⊎◌, inl, inr}
use mathlib.Core.List.{List}
use native.Mathlib.Omega.{arith}
use borrow.Author.Tests.{ltb-true}
use lib.Dec.{eqb, leb, ltb}
use lib.ListN.{length, take, drop, get_or, get_or-eq_default}
use lib.Seq.{take_all, get_or-drop}
use Rattle.executive.specs.declared.Task.{Task}
use Rattle.executive.specs.declared.Request.{Request}
use Rattle.executive.specs.declared.Rest.{Rest}
use Rattle.executive.specs.declared.Table.{Table}
use Rattle.executive.specs.Numbers.{highest}
use Rattle.executive.specs.Lists.{one, sum_of, pad}
use Rattle.executive.specs.Places.{no_task, no_request, task_at}
use Rattle.executive.specs.Pool.{PoolInOrder, requests}
use Rattle.executive.specs.Messages.{mail_at}
use Rattle.executive.specs.WellFormed.{ends_of}
use Rattle.executive.specs.Check.{is_task, is_free, names_others}
use Rattle.executive.proofs.Assured.{and_true, not-zero, every_make, blank-pad, free-is, length-pad, take-le, Lt, lt_yes, lt_no, ltb-is}
use Rattle.mender.specs.Links.{Runs}
use Rattle.mender.specs.Links.{Links}
use Rattle.mender.specs.Rules.{own_rule, first_broken}
use Rattle.mender.specs.Passes.{keeps_request, unlinked, linked_runs, linked_requests, link_pass}
use Rattle.mender.proofs.Passed.{Owned, Queued, Linked}
use Rattle.mender.proofs.Queued.{pad-sum}
use Rattle.mender.proofs.Sums.{first_make, first-get, pad-past}
use Rattle.mender.proofs.Linked.{Running, linked_runs_lem, same-state}
use Rattle.mender.proofs.Asking.{lone, Asking, linked-requests}
use Rattle.mender.proofs.OwnRules.{unlinked-right}

-- a line of requests in its array: as many places, free ones behind it
pub pool-places : (r : Rest) → PoolInOrder r → length r.pool ≡ 32
pool-places r o = ap length o.clear ∙ length-pad no_request 32 (requests r) (omega (arith, take-le r.queued r.pool, o.room))

pub free-past : (r : Rest) → PoolInOrder r → (j : ℕ) → r.queued ≤ j → get_or r.pool j no_request ≡ no_request
free-past r o j h = rw o.clear (pad-past no_request 32 (requests r) j (omega (arith, take-le r.queued r.pool)))

-- what a request keeps without its waiters
keeps-lone : (n : ℕ) (ts us : List Task) (q p : Request) → ((w : ℕ) → (task_at us w).state ≡ (task_at ts w).state) → lone q ≡ lone p
    → keeps_request n ts p ≡ true → keeps_request n us q ≡ true
keeps-lone n ts us q p s e h =
    let t : q.target ≡ p.target = ap (λ (r : Request). r.target) e in
    let u : q.priority ≡ p.priority = ap (λ (r : Request). r.priority) e in
    rw (t, u, s p.target.0) h

module _ (t : Table) (hn : t.rest.count ≤ 16) (o : Owned t) (q : Queued t) where
  abbrev n : ℕ
  n = t.rest.count

  -- the runs, and the requests after them
  abbrev u : Runs
  u = linked_runs n t.tasks

  abbrev l : Links
  l = linked_requests n u.tasks t.rest.pool u.named

  pub run_law : Running t.tasks 16 u
  run_law = linked_runs_lem n hn t.tasks o.tasks

  states : (w : ℕ) → (task_at u.tasks w).state ≡ (task_at t.tasks w).state
  states w = same-state u.tasks t.tasks run_law.either w

  all_runs : take 16 u.tasks ≡ u.tasks
  all_runs = take_all 16 u.tasks (omega (arith, run_law.tasks))

  pub asking_law : Asking u.tasks t.rest.pool 32 l
  asking_law =
      linked-requests n hn u.tasks u.named run_law.named t.rest.pool (pool-places t.rest q.pool)
      (λ w g. rw (states w) (rw all_runs at (run_law.runs w g))) (λ w. rw (states w) (run_law.none w))

  -- the requests in their array again
  clear : l.pool ≡ pad 32 no_request (take t.rest.queued l.pool)
  clear =
      blank-pad is_free no_request free-is 32 t.rest.queued l.pool asking_law.pool
      (every_make is_free no_request (drop t.rest.queued l.pool)
      (λ i. rw (get_or-drop t.rest.queued l.pool i no_request, asking_law.free (t.rest.queued + i) (free-past t.rest q.pool (t.rest.queued + i) (omega arith))) refl))

  abbrev line : List Request
  line = take t.rest.queued l.pool

  all-requests : take 32 l.pool ≡ l.pool
  all-requests = take_all 32 l.pool (omega (arith, asking_law.pool))

  counted : (f : Request → ℕ) → f no_request ≡ 0 → sum_of f (take 32 l.pool) ≡ sum_of f line
  counted f z = rw all-requests (ap (sum_of f) clear ∙ pad-sum f no_request 32 line z)

  kept : (j : ℕ) → j < t.rest.queued → j < length l.pool → keeps_request n u.tasks (get_or l.pool j no_request) ≡ true
  kept j g m =
      keeps-lone n t.tasks u.tasks (get_or l.pool j no_request) (get_or t.rest.pool j no_request) states (asking_law.alike j)
      (first-get (keeps_request n t.tasks) no_request t.rest.pool t.rest.queued q.asked j g (omega (arith, pool-places t.rest q.pool, asking_law.pool)))

  -- ---- what it leaves
  run-apart : (k : ℕ) → 0 < k → eqb k (task_at u.tasks k).end_waiter.0 ≡ false
  unfolding task_at
  run-apart zero g = absurd (omega arith)
  run-apart (suc j) g = go (ltb j 16) (ltb-is j 16)
    where
      go : (b : Bool) → Lt j 16 b → eqb (suc j) (get_or u.tasks j no_task).end_waiter.0 ≡ false
      go true (lt_yes h) = run_law.apart j h
      go false (lt_no h) = rw (get_or-eq_default u.tasks no_task {n = j} (omega (arith, run_law.tasks))) (not-zero (suc j) g)

  pub link_linked : Linked (link_pass t).named (link_pass t).table.tasks (requests (link_pass t).table.rest)
  unfolding link_pass
  link_linked = record {
    named = asking_law.named;
    starts = λ w g. sym (counted (λ (r : Request). one (eqb w r.start_waiter.0)) (ap one (not-zero w g))) ∙ asking_law.starts w g;
    ends = λ w g.
        (let z : ends_of w (take 32 l.pool) ≡ ends_of w line = counted (λ (r : Request). one (eqb w r.end_waiter.0)) (ap one (not-zero w g)) in
        omega (arith, asking_law.ends w g));
    others = first_make names_others no_request l.pool t.rest.queued
        (λ j g m. asking_law.others j (omega (arith, asking_law.pool)) (named j (kept j g m)));
    apart = run-apart;
  }
    where
      named : (j : ℕ) → keeps_request n u.tasks (get_or l.pool j no_request) ≡ true → 0 < (get_or l.pool j no_request).target.0
      named j h =
          let a = and_true (leb (get_or l.pool j no_request).priority highest) _ h in
          let b = and_true (is_task n (get_or l.pool j no_request).target) _ a.1 in
          ltb-true _ _ (and_true (ltb 0 (get_or l.pool j no_request).target.0) _ b.0).0

  -- an entry stays right, without its link too; its own rules do not look at the pool
  own-still : (k : ℕ) → own_rule t.rest k (task_at u.tasks k) (mail_at t.rest.mail k) ≡ 0
  unfolding task_at
  own-still zero = o.own 0
  own-still (suc j) = go (run_law.either j)
    where
      go : (get_or u.tasks j no_task ≡ get_or t.tasks j no_task) ⊎ (get_or u.tasks j no_task ≡ unlinked (get_or t.tasks j no_task))
          → own_rule t.rest (suc j) (get_or u.tasks j no_task) (mail_at t.rest.mail (suc j)) ≡ 0
      go (inl p) = rw p (o.own (suc j))
      go (inr p) = rw p (unlinked-right t.rest (suc j) (get_or t.tasks j no_task) (mail_at t.rest.mail (suc j)) (o.own (suc j)))

  pub link_owned : Owned (link_pass t).table
  unfolding link_pass own_rule first_broken
  link_owned = record { tasks = run_law.tasks; mail = o.mail; own = own-still }

  pub link_queued : Queued (link_pass t).table
  unfolding link_pass
  link_queued = record {
    pool = record { room = q.pool.room; clear = clear };
    asked = first_make (keeps_request n u.tasks) no_request l.pool t.rest.queued kept;
    messages = record { room = q.messages.room; clear = q.messages.clear };
    sent = q.sent;
  }
