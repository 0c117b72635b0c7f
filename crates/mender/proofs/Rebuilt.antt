-- A clean table, rebuilt, is well formed: the rules by part, each from what the passes left and what the rebuilding makes.
use Prim.Native.Nat.{ℕ, ◌+◌, ◌-◌, ◌≤◌, ◌<◌}
use mathlib.Core.Path.{◌≡◌, refl, sym, ap, ◌∙◌}
use mathlib.Core.Bool.{Bool, true, false, ◌&&◌}
use mathlib.Core.List.{List, [], ◌∷◌}
use native.Mathlib.Omega.{arith}
use borrow.Author.Tests.{eqb-true, ltb-true, leb-true}
use lib.Dec.{eqb, leb, ltb}
use lib.ListN.{length, get_or}
use Rattle.records.specs.declared.TaskNo.{TaskNo}
use Rattle.executive.specs.declared.Millis.{Millis}
use Rattle.executive.specs.declared.State.{State}
use Rattle.executive.specs.declared.Task.{Task}
use Rattle.executive.specs.declared.Request.{Request}
use Rattle.executive.specs.declared.Message.{Message}
use Rattle.executive.specs.declared.Rest.{Rest}
use Rattle.executive.specs.declared.Table.{Table}
use Rattle.executive.specs.Numbers.{most_tasks, sub_count, highest, most_granule, end_of_time, longest}
use Rattle.executive.specs.Lists.{one, sum_of, pad}
use Rattle.executive.specs.Queue.{count}
use Rattle.executive.specs.Places.{nobody, never, task_at}
use Rattle.executive.specs.States.{dormant, ready, await_sub, awaited_of, is_of, is, is_dormant, is_ready, waits_for}
use Rattle.executive.specs.Table.{items}
use Rattle.executive.specs.Pool.{requests}
use Rattle.executive.specs.Messages.{no_message, letters, fits, mail_at}
use Rattle.executive.specs.Subprograms.{no_subprogram, sub_at, held_by}
use Rattle.executive.specs.WellFormed.{fitting, no_task_of, Line, Stored, WellFormed}
use Rattle.executive.specs.Check.{is_task, is_nobody, is_stored, alarm_right}
use Rattle.executive.proofs.Assured.{false_not_true, and_true, not-of, none-one, sum-none, leb-none, line-pad, take-le, not-zero, eqb_self, eqb_swap, astray_get, ready_as}
use Rattle.executive.proofs.Assured.{Lt, lt_yes, lt_no, ltb-is, LinksOk, SubOk, SubsOk, MailOk, WellFormedByPart, well_formed}
use Rattle.mender.specs.Passes.{keeps_request, is_holder}
use Rattle.mender.specs.Rebuilding.{line_from, post_all, relined, subs_relined, rebuilt}
use Rattle.mender.proofs.Rows.{row-length, row_at, row-past}
use Rattle.mender.proofs.Passed.{OwnRight, Clean}
use Rattle.mender.proofs.OwnRules.{own-right}
use Rattle.mender.proofs.Sums.{sum_first}
use Rattle.mender.proofs.Lined.{line-few, line_law, posted-sum, posted-length, posted-falls}

-- the clock, the granule and the task count are in range
pub record Bounded (r : Rest) : Type 0 where
  pub count : (1 ≤ r.count) × (r.count ≤ most_tasks)
  pub granule : (1 ≤ r.granule) × (r.granule ≤ most_granule)
  pub clock : r.clock.0 ≤ end_of_time

-- ---- a request that is kept: its priority, its target
record Asks (n : ℕ) (ts : List Task) (q : Request) : Type 0 where
  level : one (ltb highest q.priority) ≡ 0
  target : 0 < q.target.0
  busy : is_dormant (task_at ts q.target.0).state ≡ false

asks : (n : ℕ) (ts : List Task) (q : Request) → keeps_request n ts q ≡ true → Asks n ts q
asks n ts q h =
    let a = and_true (leb q.priority highest) _ h in
    let b = and_true (is_task n q.target) _ a.1 in
    record {
      level = leb-none q.priority highest a.0;
      target = ltb-true _ _ (and_true (ltb 0 q.target.0) _ b.0).0;
      busy = not-of _ b.1;
    }

-- an alarm that is running is a stored time
alarm-stored : (c : ℕ) (a : Millis) → alarm_right c a ≡ true → 0 < a.0 → Stored c a.0
alarm-stored c a h g =
    let z : is_stored c a.0 ≡ true = rw (not-zero a.0 g) at h in
    let b = and_true (ltb c a.0) _ z in
    let x : c < a.0 = ltb-true _ _ b.0 in
    let y : a.0 - c ≤ longest = leb-true _ _ b.1 in
    (x, omega arith)

-- a line in which nobody stands is empty
nobody-stands : (ts : List Task) (xs : List TaskNo) → ((k : ℕ) → count k (items ts xs) ≡ 0) → length xs ≡ 0
unfolding count items
nobody-stands ts [] h = refl
nobody-stands ts (x ∷ xs) h = absurd (omega (arith, h x.0, ap one (eqb_self x.0)))

module _ (u : Table) (c : Clean u) (b : Bounded u.rest) where
  abbrev r : Rest
  r = u.rest

  abbrev n : ℕ
  n = r.count

  abbrev ts : List Task
  ts = u.tasks

  right : (k : ℕ) → OwnRight r k (task_at ts k) (mail_at r.mail k)
  right k = own-right r k (task_at ts k) (mail_at r.mail k) (c.owned.own k)

  of-requests : (f : Request → ℕ) → ((q : Request) → Asks n ts q → f q ≡ 0) → sum_of f (requests r) ≡ 0
  of-requests f h = sum-none (keeps_request n ts) f (λ q k. h q (asks n ts q k)) (requests r) c.queued.asked

  -- ---- links: what is asked is of a busy task
  linked : LinksOk ts (requests r)
  linked = record {
    starts = c.links.starts;
    ends = c.links.ends;
    others = c.links.others;
    apart = c.links.apart;
    single = c.links.single;
    named = of-requests (λ (q : Request). one (eqb 0 q.target.0)) (λ q a. ap one (eqb_swap q.target.0 0 (not-zero q.target.0 a.target)));
    busy = λ k g d. of-requests (λ (q : Request). one (eqb k q.target.0)) (λ q a. idle k d q a (eqb k q.target.0) refl);
    quiet = λ k d. ((right k).entry.zeros d).waiter;
  }
    where
      idle : (k : ℕ) → is dormant (task_at ts k).state ≡ 1 → (q : Request) → Asks n ts q → (x : Bool) → eqb k q.target.0 ≡ x → one x ≡ 0
      idle k d q a true e =
          let z : k ≡ q.target.0 = eqb-true k q.target.0 e in
          let y : is dormant (task_at ts q.target.0).state ≡ 1 = rw z at d in
          absurd (omega (arith, ap one a.busy))
      idle k d q a false e = refl

  -- ---- the ready queue
  abbrev queued : List TaskNo
  queued = line_from ready 0 ts u.queue

  ready-line : Line is_ready ts queued
  ready-line =
      let l = line_law ready 0 ts u.queue refl c.owned.tasks in
      record { exact = λ k. l.exact k ∙ ap one (ready_as (task_at ts k).state); sorted = l.sorted }

  -- ---- the subprograms
  abbrev waiting : ℕ → List TaskNo
  waiting m = line_from await_sub m ts (sub_at r m).line

  waiting-line : (m : ℕ) → Line (waits_for m) ts (waiting m)
  waiting-line m = line_law await_sub m ts (sub_at r m).line refl c.owned.tasks

  -- nobody waits for one that is free, nor for one past the last
  free-none : (m : ℕ) → (sub_at r m).holder.0 ≡ 0 → (k : ℕ) → one (waits_for m (task_at ts k).state) ≡ 0
  free-none m z k = go (is_of await_sub s) (eqb m (awaited_of s)) refl refl
    where
      s : State
      s = (task_at ts k).state

      go : (x y : Bool) → is_of await_sub s ≡ x → eqb m (awaited_of s) ≡ y → one (x && y) ≡ 0
      go true true e f =
          let g : is_nobody (sub_at r (awaited_of s)).holder ≡ false = c.waits k e in
          let h : is_nobody (sub_at r m).holder ≡ false = rw (← (eqb-true m (awaited_of s) f)) at g in
          false_not_true (sym h ∙ rw z refl)
      go true false e f = refl
      go false y e f = refl

  past-none : (m : ℕ) → sub_count ≤ m → (k : ℕ) → one (waits_for m (task_at ts k).state) ≡ 0
  past-none m h k = go (is_of await_sub s) (eqb m (awaited_of s)) refl refl
    where
      s : State
      s = (task_at ts k).state

      go : (x y : Bool) → is_of await_sub s ≡ x → eqb m (awaited_of s) ≡ y → one (x && y) ≡ 0
      go true true e f = absurd (omega (arith, (right k).inside e, eqb-true m (awaited_of s) f))
      go true false e f = refl
      go false y e f = refl

  holder-busy : (m : ℕ) → 0 < (sub_at r m).holder.0 → is dormant (task_at ts (sub_at r m).holder.0).state ≡ 0
  holder-busy m g =
      let z : is_holder n ts (sub_at r m).holder ≡ true = rw (not-zero (sub_at r m).holder.0 g) at (c.held.holders m) in
      none-one (is_dormant (task_at ts (sub_at r m).holder.0).state) (and_true (is_task n (sub_at r m).holder) _ z).1

  sub-right : (m : ℕ) → SubOk ts m (held_by (sub_at r m).holder (waiting m))
  sub-right m = record {
    neat = record { room = line-few await_sub m ts (sub_at r m).line refl; clear = ap (pad 16 nobody) (sym (line-pad nobody 16 (waiting m))) };
    busy = holder-busy m;
    free = λ z. nobody-stands ts (waiting m) (λ k. (waiting-line m).exact k ∙ free-none m z k);
    waiters = rw (line-pad nobody 16 (waiting m)) (waiting-line m);
  }

  none_right : (m : ℕ) → sub_count ≤ m → SubOk ts m no_subprogram
  unfolding items count
  none_right m h = record {
    neat = record { room = omega arith; clear = refl };
    busy = λ z. absurd (omega arith);
    free = λ z. refl;
    waiters = record { exact = λ k. sym (past-none m h k); sorted = tt };
  }

  subs-right : SubsOk ts (subs_relined ts r.subs)
  unfolding relined
  subs-right = record { sized = row-length (λ m. relined ts m (get_or r.subs m no_subprogram)) sub_count 0; each = λ m. go m (ltb m sub_count) (ltb-is m sub_count) }
    where
      go : (m : ℕ) (x : Bool) → Lt m sub_count x → SubOk ts m (get_or (subs_relined ts r.subs) m no_subprogram)
      go m true (lt_yes h) = rw (row_at (λ m. relined ts m (get_or r.subs m no_subprogram)) no_subprogram sub_count m h) (sub-right m)
      go m false (lt_no h) = rw (row-past (λ m. relined ts m (get_or r.subs m no_subprogram)) no_subprogram sub_count m h) (none_right m h)

  -- ---- the messages
  abbrev posted : List Message
  posted = post_all (letters r) []

  same_sum : (f : Message → ℕ) → sum_of f posted ≡ sum_of f (letters r)
  unfolding sum_of
  same_sum f = omega (arith, posted-sum f (letters r) [])

  none-fits : (k : ℕ) (s : ℕ) → fitting k s r.messages ≡ 0 → fitting k s posted ≡ 0
  none-fits k s z =
      let f : Message → ℕ = λ (m : Message). one (fits k s m) in
      omega (arith, same_sum (λ (m : Message). one (fits k s m)), sum_first (λ (m : Message). one (fits k s m)) r.messages r.sent)

  mail-right : MailOk ts (rebuilt u).rest
  unfolding rebuilt
  mail-right = record {
    neat = record {
      room = omega (arith, posted-length (letters r) [], take-le r.sent r.messages, c.queued.messages.room);
      clear = ap (pad 32 no_message) (sym (line-pad no_message 32 posted));
    };
    places = c.owned.mail;
    names = rw (line-pad no_message 32 posted)
        (same_sum (λ (m : Message). one (ltb highest m.priority) + (no_task_of n m.to.0 + no_task_of n m.sender.0)) ∙ astray_get n (letters r) c.queued.sent);
    sorted = rw (line-pad no_message 32 posted) (posted-falls (letters r) [] tt);
    unmet = λ k e. rw (line-pad no_message 32 posted) (none-fits k (awaited_of (task_at ts k).state) ((right k).unmet e));
    senders = λ k. (right k).senders;
    mail = λ k. (right k).mail;
    emptied = λ k. (right k).emptied;
  }

  -- ---- the table
  by_part : WellFormedByPart (rebuilt u)
  unfolding rebuilt
  by_part = record {
    fit = record {
      all = c.owned.tasks;
      few = line-few ready 0 ts u.queue refl;
      tidy = ap (pad 16 nobody) (sym (line-pad nobody 16 queued));
      neat = record { room = c.queued.pool.room; clear = c.queued.pool.clear };
    };
    queue = rw (line-pad nobody 16 queued) ready-line;
    links = linked;
    own = λ k. (right k).entry;
    rested = record {
      count = b.count;
      granule = b.granule;
      clocked = b.clock;
      sized = c.held.sized;
      alarms = λ i g. alarm-stored r.clock.0 (get_or r.alarms i never) (c.held.alarms i) g;
      priorities = of-requests (λ (q : Request). one (ltb highest q.priority)) (λ q a. a.level);
      neat = record { room = c.queued.pool.room; clear = c.queued.pool.clear };
    };
    lit = refl;
    lined = subs-right;
    mailed = mail-right;
  }

  pub rebuilt-right : WellFormed (rebuilt u)
  rebuilt-right = well_formed (rebuilt u) by_part
