-- The waiters' pass: who waits is named, or waits for a subprogram that has a holder; and what the pass keeps.
use Prim.Native.Nat.{ℕ, zero, suc, ◌+◌}
use mathlib.Core.Path.{◌≡◌, refl, sym, ap, ◌∙◌}
use mathlib.Core.Bool.{Bool, true, false, not, cond, ◌||◌}
use mathlib.Core.List.{List}
use native.Mathlib.Omega.{arith}
use lib.Dec.{eqb, ltb}
use lib.ListN.{length, get_or, get_or-eq_default}
use Rattle.records.specs.declared.TaskNo.{TaskNo}
use Rattle.executive.specs.declared.State.{State}
use Rattle.executive.specs.declared.State.TheVariants.{Ready}
use Rattle.executive.specs.declared.Task.{Task}
use Rattle.executive.specs.declared.Request.{Request}
use Rattle.executive.specs.declared.Sub.{Sub}
use Rattle.executive.specs.declared.Table.{Table}
use Rattle.executive.specs.Lists.{one, ◌and◌}
use Rattle.executive.specs.Places.{no_task, task_at}
use Rattle.executive.specs.States.{await_start, await_end, await_sub, awaited_of, is_of, is, is_dormant}
use Rattle.executive.specs.Entries.{with_state}
use Rattle.executive.specs.Pool.{requests}
use Rattle.executive.specs.Subprograms.{no_subprogram, sub_at}
use Rattle.executive.specs.Messages.{mail_at}
use Rattle.executive.specs.WellFormed.{runs_of}
use Rattle.executive.specs.Check.{is_nobody, names_others}
use Rattle.executive.proofs.Assured.{false_not_true, and_true, none-one, sum-none, Lt, lt_yes, lt_no, ltb-is}
use Rattle.mender.specs.Rules.{own_rule}
use Rattle.mender.specs.Passes.{keeps_request, named_at, is_lost, waiter_after, waiters_after, waiter_pass}
use Rattle.mender.proofs.Rows.{row-length, row_at}
use Rattle.mender.proofs.Passed.{Owned, Queued, Linked, Held, Clean}
use Rattle.mender.proofs.Sums.{sum_same, all_same}
use Rattle.mender.proofs.OwnRules.{ready-right}
use Rattle.mender.proofs.Held.{lost-waits, waits-busy, found-sub}

-- ---- one waiter: its state s, and whether a link names it
module _ (ss : List Sub) (b : Bool) (s : State) where
  -- its state after the pass
  abbrev after : State
  after = cond (is_lost ss b s) Ready s

  -- it is of a kind, which is not to be ready, where it was and is not lost
  of-kind : (k : ℕ) → is_of k Ready ≡ false → is_of k after ≡ (not (is_lost ss b s) and is_of k s)
  of-kind k r = go (is_lost ss b s)
    where
      go : (x : Bool) → is_of k (cond x Ready s) ≡ (not x and is_of k s)
      go true = r
      go false = refl

  none : (x y : Bool) → one (x and false) ≡ one (y and false)
  none true true = refl
  none true false = refl
  none false true = refl
  none false false = refl

  twice : (x : Bool) → one (not (not x) and true) ≡ one (x and true)
  twice true = refl
  twice false = refl

  after-starts : is await_start after ≡ one (b and is_of await_start s)
  unfolding is_lost
  after-starts = ap one (of-kind await_start refl) ∙ go (is_of await_start s) (is_of await_sub s and is_nobody (get_or ss (awaited_of s) no_subprogram).holder)
    where
      go : (x z : Bool) → one (not (cond (x || is_of await_end s) (not b) z) and x) ≡ one (b and x)
      go true z = twice b
      go false z = none (not (cond (is_of await_end s) (not b) z)) b

  after-ends : is await_end after ≡ one (b and is_of await_end s)
  unfolding is_lost
  after-ends = ap one (of-kind await_end refl) ∙ go (is_of await_start s) (is_of await_end s) (is_of await_sub s and is_nobody (get_or ss (awaited_of s) no_subprogram).holder)
    where
      go : (x y z : Bool) → one (not (cond (x || y) (not b) z) and y) ≡ one (b and y)
      go true true z = twice b
      go false true z = twice b
      go x false z = none (not (cond (x || false) (not b) z)) b

  -- who is dormant stays so, and nobody becomes it
  lost-busy : is_lost ss b s ≡ true → is_dormant s ≡ false
  lost-busy h = waits-busy s (lost-waits ss b s h)

  after-dormant : is_dormant after ≡ is_dormant s
  after-dormant = go (is_lost ss b s) refl
    where
      go : (x : Bool) → is_lost ss b s ≡ x → is_dormant (cond x Ready s) ≡ is_dormant s
      go true h = sym (lost-busy h)
      go false h = refl

  -- who waits for a subprogram waited for it before, and it has a holder
  after-sub : is_of await_sub after ≡ true → is_nobody (get_or ss (awaited_of after) no_subprogram).holder ≡ false
  after-sub = go (is_lost ss b s) refl
    where
      go : (x : Bool) → is_lost ss b s ≡ x → is_of await_sub (cond x Ready s) ≡ true → is_nobody (get_or ss (awaited_of (cond x Ready s)) no_subprogram).holder ≡ false
      go true h e = false_not_true e
      go false h e = found-sub ss b s h e

-- ---- the entries after the pass, by number
module _ (ss : List Sub) (bs : List Bool) (ts : List Task) (l : length ts ≡ 16) where
  abbrev us : List Task
  us = waiters_after ss bs ts

  waiter-at : (k : ℕ) → task_at us k ≡ waiter_after ss (named_at bs k) (task_at ts k)
  unfolding task_at named_at waiter_after is_lost
  waiter-at zero = refl
  waiter-at (suc i) = go (ltb i 16) (ltb-is i 16)
    where
      go : (b : Bool) → Lt i 16 b → get_or us i no_task ≡ waiter_after ss (get_or bs i false) (get_or ts i no_task)
      go true (lt_yes h) = row_at (λ j. waiter_after ss (get_or bs j false) (get_or ts j no_task)) no_task 16 i h
      go false (lt_no h) =
          let m : length us ≡ 16 = row-length (λ j. waiter_after ss (get_or bs j false) (get_or ts j no_task)) 16 0 in
          rw (get_or-eq_default us no_task {n = i} (omega arith), get_or-eq_default ts no_task {n = i} (omega arith)) refl

  waiter-state : (k : ℕ) → (task_at us k).state ≡ after ss (named_at bs k) (task_at ts k).state
  unfolding waiter_after
  waiter-state k = ap (λ (e : Task). e.state) (waiter-at k) ∙ go (is_lost ss (named_at bs k) (task_at ts k).state)
    where
      go : (x : Bool) → (cond x (with_state Ready (task_at ts k)) (task_at ts k)).state ≡ cond x Ready (task_at ts k).state
      go true = refl
      go false = refl

  waiter_link : (k : ℕ) → (task_at us k).end_waiter ≡ (task_at ts k).end_waiter
  unfolding waiter_after
  waiter_link k = ap (λ (e : Task). e.end_waiter) (waiter-at k) ∙ go (is_lost ss (named_at bs k) (task_at ts k).state)
    where
      go : (x : Bool) → (cond x (with_state Ready (task_at ts k)) (task_at ts k)).end_waiter ≡ (task_at ts k).end_waiter
      go true = refl
      go false = refl

  waiter-dormant : (k : ℕ) → is_dormant (task_at us k).state ≡ is_dormant (task_at ts k).state
  waiter-dormant k = ap is_dormant (waiter-state k) ∙ after-dormant ss (named_at bs k) (task_at ts k).state

  waiter-runs : (w : ℕ) → runs_of w us ≡ runs_of w ts
  unfolding task_at
  waiter-runs w =
      sum_same (λ (e : Task). one (eqb w e.end_waiter.0)) no_task us ts
      (row-length (λ j. waiter_after ss (get_or bs j false) (get_or ts j no_task)) 16 0 ∙ sym l) (λ j. ap (λ (x : TaskNo). one (eqb w x.0)) (waiter_link (suc j)))

-- ---- links, as the two sums count them
others-none : (q : Request) → names_others q ≡ true → one (eqb q.target.0 q.start_waiter.0) + one (eqb q.target.0 q.end_waiter.0) ≡ 0
others-none q h =
    let a = and_true (not (eqb q.target.0 q.start_waiter.0)) _ h in
    let b = and_true (not (eqb q.target.0 q.end_waiter.0)) _ a.1 in
    let x : one (eqb q.target.0 q.start_waiter.0) ≡ 0 = none-one (eqb q.target.0 q.start_waiter.0) a.0 in
    let y : one (eqb q.target.0 q.end_waiter.0) ≡ 0 = none-one (eqb q.target.0 q.end_waiter.0) b.0 in
    omega arith

single-none : (q : Request) → names_others q ≡ true → cond (eqb q.start_waiter.0 0) 0 (one (not (eqb q.end_waiter.0 0))) ≡ 0
single-none q h =
    let a = and_true (not (eqb q.target.0 q.start_waiter.0)) _ h in
    let b = and_true (not (eqb q.target.0 q.end_waiter.0)) _ a.1 in
    go (eqb q.start_waiter.0 0) b.1
  where
    go : (x : Bool) → cond x true (eqb q.end_waiter.0 0) ≡ true → cond x 0 (one (not (eqb q.end_waiter.0 0))) ≡ 0
    go true e = refl
    go false e = rw e refl

-- ---- the pass
module _ (bs : List Bool) (t : Table) (o : Owned t) (q : Queued t) (k : Linked bs t.tasks (requests t.rest)) (h : Held t) where
  abbrev ss : List Sub
  ss = t.rest.subs

  abbrev now : List Task
  now = waiters_after ss bs t.tasks

  own-still : (j : ℕ) → own_rule t.rest j (task_at now j) (mail_at t.rest.mail j) ≡ 0
  unfolding waiter_after
  own-still j = rw (waiter-at ss bs t.tasks o.tasks j) (go (is_lost ss (named_at bs j) e.state) refl)
    where
      e : Task
      e = task_at t.tasks j

      go : (x : Bool) → is_lost ss (named_at bs j) e.state ≡ x → own_rule t.rest j (cond x (with_state Ready e) e) (mail_at t.rest.mail j) ≡ 0
      go true z = ready-right t.rest j e (mail_at t.rest.mail j) (lost-busy ss (named_at bs j) e.state z) (o.own j)
      go false z = o.own j

  still-busy : (j : ℕ) → is_dormant (task_at now j).state ≡ is_dormant (task_at t.tasks j).state
  still-busy j = waiter-dormant ss bs t.tasks o.tasks j

  pub waiter-pass : Clean (waiter_pass bs t)
  unfolding waiter_pass
  waiter-pass = record {
    owned = record { tasks = row-length (λ j. waiter_after ss (get_or bs j false) (get_or t.tasks j no_task)) 16 0; mail = o.mail; own = own-still };
    queued = record {
      pool = q.pool;
      asked = all_same (keeps_request t.rest.count now) (keeps_request t.rest.count t.tasks) (requests t.rest) (λ r. rw (still-busy r.target.0) refl) ∙ q.asked;
      messages = q.messages;
      sent = q.sent;
    };
    held = record { subs = h.subs; holders = λ m. rw (still-busy (sub_at t.rest m).holder.0) (h.holders m); sized = h.sized; alarms = h.alarms };
    links = record {
      starts = λ w g. k.starts w g ∙ sym (ap (is await_start) (waiter-state ss bs t.tasks o.tasks w) ∙ after-starts ss (named_at bs w) (task_at t.tasks w).state);
      ends = λ w g.
          rw (waiter-runs ss bs t.tasks o.tasks w)
          (k.ends w g ∙ sym (ap (is await_end) (waiter-state ss bs t.tasks o.tasks w) ∙ after-ends ss (named_at bs w) (task_at t.tasks w).state));
      others = sum-none names_others (λ (r : Request). one (eqb r.target.0 r.start_waiter.0) + one (eqb r.target.0 r.end_waiter.0)) others-none (requests t.rest) k.others;
      apart = λ j g. rw (waiter_link ss bs t.tasks o.tasks j) (k.apart j g);
      single = sum-none names_others (λ (r : Request). cond (eqb r.start_waiter.0 0) 0 (one (not (eqb r.end_waiter.0 0)))) single-none (requests t.rest) k.others;
    };
    waits = λ j. rw (waiter-state ss bs t.tasks o.tasks j) (after-sub ss (named_at bs j) (task_at t.tasks j).state);
  }
