-- The plan of kind 05 is good, with the decoding of its option.
use mathlib.Core.Path.{◌≡◌, refl, ap, ◌∙◌, sym}
use mathlib.Core.Bool.{Bool, true, false, not, cond}
use mathlib.Core.List.{List, [], ◌∷◌, ◌++◌}
use Prim.Native.Nat.{ℕ, ◌+◌, ◌≤◌, ◌<◌, ◌/◌, ◌%◌}
use native.Mathlib.Omega.{arith}
use borrow.Author.Tests.{eqb-true, ne_eqb}
use lib.Dec.{ltb, eqb}
use Rattle.records.specs.declared.TaskNo.{TaskNo}
use Rattle.executive.specs.declared.AwaitedMoment.{AwaitedMoment}
use Rattle.executive.specs.declared.AwaitedMoment.TheVariants.{ForNothing, ForStart, ForEnd}
use Rattle.executive.specs.declared.State.TheVariants.{AwaitStart, AwaitEnd}
use Rattle.executive.specs.declared.Task.{Task}
use Rattle.executive.specs.declared.Request.{Request}
use Rattle.executive.specs.declared.Table.{Table}
use Rattle.executive.specs.Entries.{with_state, begun}
use Rattle.executive.specs.Plans.{begins, out_of, asks, start_now_plan, queue_request_plan, caller, state_at, priority_of, wait_of, argument_of, request_of, start_or_queue_plan}
use Rattle.executive.specs.Lists.{one, ◌and◌}
use Rattle.executive.specs.Pool.{with_requests, requests}
use Rattle.executive.specs.Places.{nobody, no_request, Names, task_at, put_at}
use Rattle.executive.specs.Table.{out_tasks, line, head_of, Out, stays, leaves}
use Rattle.executive.specs.States.{dormant, ready, await_sub, is, is_dormant}
use Rattle.executive.specs.WellFormed.{over_priority}
use Rattle.executive.proofs.Plans.WorkingForm.{EntriesOk, LinksOk, SubsOk, WellFormedByPart, busy-own}
use Rattle.executive.proofs.Lists.Tests.{not-zero, one_ge, false_not_true}
use Rattle.executive.proofs.Lists.Pad.{line-pad}
use Rattle.executive.proofs.queue.ArraysAreLists.{queued-neat}
use Rattle.executive.proofs.places.TaskAt.{at_other, put_length}
use Rattle.executive.proofs.Lists.Sums.{sum-snoc}
use Rattle.executive.proofs.Plans.QueueKept.{not-both}
use Rattle.executive.proofs.Plans.LinksKept.{links-up, up-links}
use Rattle.executive.proofs.Plans.Links.{begin, await-end, await-start, adopt}
use Rattle.executive.proofs.Plans.GoodIsKept.{puts, out_ready, Good}
use Rattle.executive.proofs.Plans.SubsKept.{AllElse, joined, subs_else}
use Rattle.executive.proofs.Plans.Shared.{own_put, runs, pooled, waits-own, leaves_else, leaves-mailed}
use Rattle.executive.proofs.messages.Kept.{MailOk, mail-beside}

module _ (t : Table) (w : WellFormedByPart t) (h : 0 < t.ready) where
  abbrev c : TaskNo
  c = head_of (line t)

  abbrev rs : List Request
  rs = requests t.rest

  abbrev e : Task
  e = task_at t.tasks c.0

  -- ---- 05: a caller that waits is another than the target
  abbrev pub MayWait : AwaitedMoment → ℕ → Type 0
  MayWait ForNothing k = Unit {0}
  MayWait ForStart k = eqb k c.0 ≡ false
  MayWait ForEnd k = eqb k c.0 ≡ false

  -- the caller departs to a state that is busy, and waits for no subprogram
  gone : (e : Task) → is dormant e.state + is await_sub e.state ≡ 0 → SubsOk (put_at t.tasks c.0 e) t.rest.subs
  gone e z = leaves_else t w h e (omega arith) (λ d. absurd (omega arith))

  module _ (k : TaskNo) (p a : ℕ) (lv : p ≤ 15) where
    -- a request that names no end waiter names one waiter at most
    sole : (b : Bool) → cond b 0 (one (not (eqb 0 0))) ≡ 0
    sole true = refl
    sole false = refl

    steep_more : (q : Request) → q.priority ≡ p → over_priority (rs ++ (q ∷ [])) ≡ 0
    steep_more q g = omega (arith, sum-snoc (λ (r : Request). one (ltb 15 r.priority)) rs q, w.rested.priorities, ap (λ (n : ℕ). one (ltb 15 n)) g, one_ge 15 p lv)

    module _ (hk : 0 < k.0) (busy : is dormant (task_at t.tasks k.0).state ≡ 0) (room : t.rest.queued < 32) where
      queued : (wt : AwaitedMoment) → (o : Out) (ts : List Task) → out_of wt ≡ o → out_tasks o t.tasks c.0 ≡ ts → out_ready o e ≡ 0
          → LinksOk ts (rs ++ (asks c wt k p a ∷ [])) → EntriesOk t.rest ts → SubsOk ts t.rest.subs → MailOk ts t.rest → Good (queue_request_plan t (asks c wt k p a) wt) t
      unfolding queue_request_plan puts
      queued wt o ts eo et z l own lined mailed =
          let q : Request = asks c wt k p a in
          let m : requests (with_requests (rs ++ (q ∷ [])) t.rest) ≡ rs ++ (q ∷ []) = line-pad no_request 32 (rs ++ (q ∷ [])) in
          record {
            leaving = rw eo z;
            joining = tt;
            linked = rw (eo, et, m) l;
            own = rw (eo, et) own;
            rested = (pooled t w h) (rs ++ (q ∷ [])) (queued-neat t.rest w.fit.neat q room) (steep_more q refl);
            lined = rw (eo, et) lined;
            mailed = rw (eo, et) (mail-beside ts t.rest (with_requests (rs ++ (q ∷ [])) t.rest) refl refl refl refl mailed);
          }

      pub queue-good : (wt : AwaitedMoment) → MayWait wt k.0 → Good (queue_request_plan t (asks c wt k p a) wt) t
      queue-good ForNothing x = queued ForNothing stays t.tasks refl refl refl
          (up-links (adopt t.tasks rs (asks c ForNothing k p a) hk busy (not-zero k.0 hk) (not-zero k.0 hk) refl (links-up w.links))) w.own w.lined w.mailed
      queue-good ForStart x =
          let v : Task = with_state AwaitStart e in
          queued ForStart (leaves (with_state AwaitStart)) (put_at t.tasks c.0 v) refl refl refl
          (up-links (adopt (put_at t.tasks c.0 v) rs (asks c ForStart k p a) hk (rw (at_other t.tasks c.0 k.0 v x) busy) x (not-zero k.0 hk) (sole (eqb c.0 0))
          (await-start t.tasks rs c.0 v 0 0 (runs t w h).is-ready refl refl (links-up w.links)))) ((waits-own t w h) AwaitStart (false_not_true, false_not_true) refl) (gone v refl) (leaves-mailed t w h v refl)
      queue-good ForEnd x =
          let v : Task = with_state AwaitEnd e in
          queued ForEnd (leaves (with_state AwaitEnd)) (put_at t.tasks c.0 v) refl refl refl
          (up-links (adopt (put_at t.tasks c.0 v) rs (asks c ForEnd k p a) hk (rw (at_other t.tasks c.0 k.0 v x) busy) (not-zero k.0 hk) x refl
          (await-end t.tasks rs c.0 v 0 0 (runs t w h).is-ready refl refl (links-up w.links)))) ((waits-own t w h) AwaitEnd (false_not_true, false_not_true) refl) (gone v refl) (leaves-mailed t w h v refl)

    module _ (n : Names k.0 t.tasks) (few : k.0 ≤ t.rest.count) (idle : is dormant (task_at t.tasks k.0).state ≡ 1) where
      fresh : is ready (task_at t.tasks k.0).state + is await_sub (task_at t.tasks k.0).state ≡ 0
      fresh = omega (arith, not-both (task_at t.tasks k.0).state)

      alone : (q : Request) → q.target ≡ k → q.priority ≡ p → q.end_waiter ≡ nobody → Good (record { out = stays; ins = begins q.target q t.rest.clock ∷ []; rest = t.rest }) t
      unfolding puts
      alone q ek ep ee =
          let v : Task = begun q t.rest.clock (task_at t.tasks k.0) in
          let all : AllElse (begins q.target q t.rest.clock ∷ []) t.tasks = rw ek (record { names = n; before = fresh; after = refl }, tt) in
          record {
            leaving = refl;
            joining = joined (begins q.target q t.rest.clock ∷ []) t.tasks all;
            linked = rw ek (up-links (begin t.tasks rs k.0 v 0 0 n idle refl (ap (λ (x : TaskNo). x.0) ee) (not-zero k.0 n.0) 0 (λ k h _. not-zero k h) (links-up w.links)));
            own = rw ek (own_put t.rest t.tasks k.0 v n (busy-own (false_not_true, false_not_true) (omega arith) (omega (arith, ep)) (w.own k.0).home refl few) w.own);
            rested = w.rested;
            lined = subs_else (begins q.target q t.rest.clock ∷ []) t.tasks all w.lined;
            mailed = w.mailed;
          }

      pub start-good : (wt : AwaitedMoment) → MayWait wt k.0 → Good (start_now_plan t (asks c wt k p a) wt) t
      unfolding start_now_plan puts
      start-good ForNothing x = alone (asks c ForNothing k p a) refl refl refl
      start-good ForStart x = alone (asks c ForStart k p a) refl refl refl
      start-good ForEnd x =
          let q : Request = asks c ForEnd k p a in
          let v : Task = with_state AwaitEnd e in
          let ts : List Task = put_at t.tasks c.0 v in
          let b : Task = begun q t.rest.clock (task_at ts k.0) in
          let y : task_at ts k.0 ≡ task_at t.tasks k.0 = at_other t.tasks c.0 k.0 v x in
          let m : Names k.0 ts = (n.0, rw (put_length t.tasks c.0 v) n.1) in
          let all : AllElse (begins k q t.rest.clock ∷ []) ts = (record { names = m; before = rw y fresh; after = refl }, tt) in
          record {
            leaving = refl;
            joining = joined (begins k q t.rest.clock ∷ []) ts all;
            linked = up-links (begin ts rs k.0 b c.0 0 m (rw y idle) refl refl x 0 (λ k h _. not-zero k h) (await-end t.tasks rs c.0 v 0 0 (runs t w h).is-ready refl refl (links-up w.links)));
            own = own_put t.rest ts k.0 b m (busy-own (false_not_true, false_not_true) (omega arith) lv (rw y (w.own k.0).home) refl few) ((waits-own t w h) AwaitEnd (false_not_true, false_not_true) refl);
            rested = w.rested;
            lined = subs_else (begins k q t.rest.clock ∷ []) ts all (gone v refl);
            mailed = leaves-mailed t w h v refl;
          }

-- ---- 04 and 05: what their options say
priority-le : (option own : ℕ) → own ≤ 15 → priority_of option own ≤ 15
unfolding priority_of
priority-le option own h = go (ltb option 128)
  where
    go : (b : Bool) → cond b (option % 16) own ≤ 15
    go true = omega arith
    go false = h

and_false : (a b : Bool) → a and b ≡ false → b ≡ true → a ≡ false
and_false true b e f = false_not_true (sym e ∙ f)
and_false false b e f = refl

module _ (t : Table) (w : WellFormedByPart t) (h : 0 < t.ready) (option : ℕ) (k : TaskNo) (some : 0 < k.0) (few : k.0 ≤ t.rest.count) where
  abbrev level : ℕ
  level = priority_of option (task_at t.tasks k.0).own

  pub there : Names k.0 t.tasks
  there = (some, omega (arith, few, w.rested.count.1, w.fit.all))

  pub fair : level ≤ 15
  fair = priority-le option (task_at t.tasks k.0).own (w.own k.0).home

  -- who waits waits for another
  may_wait : eqb k.0 (caller t).0 and not (eqb (option / 32 % 4) 0) ≡ false → MayWait t w h (wait_of option) k.0
  unfolding wait_of
  may_wait e = go (eqb (option / 64 % 2) 1) refl (eqb (option / 32 % 2) 1) refl
    where
      other : (option / 32 % 4 ≡ 0 → ⊥) → eqb k.0 (caller t).0 ≡ false
      other n = and_false (eqb k.0 (caller t).0) (not (eqb (option / 32 % 4) 0)) e (ap not (ne_eqb (option / 32 % 4) 0 n))

      go : (x : Bool) → eqb (option / 64 % 2) 1 ≡ x → (y : Bool) → eqb (option / 32 % 2) 1 ≡ y → MayWait t w h (cond x ForEnd (cond y ForStart ForNothing)) k.0
      go true f y g = let z : option / 64 % 2 ≡ 1 = eqb-true (option / 64 % 2) 1 f in other (λ q. omega arith)
      go false f true g = let z : option / 32 % 2 ≡ 1 = eqb-true (option / 32 % 2) 1 g in other (λ q. omega arith)
      go false f false g = tt

  pub ask-good : (a : ℕ) → eqb k.0 (caller t).0 and not (eqb (option / 32 % 4) 0) ≡ false → (is_dormant (state_at t k) ≡ false → t.rest.queued < 32) → Good (start_or_queue_plan t option k a) t
  unfolding start_or_queue_plan request_of
  ask-good a e room = go (is_dormant (state_at t k)) refl
    where
      go : (b : Bool) → is_dormant (state_at t k) ≡ b
          → Good (cond b (start_now_plan t (asks (caller t) (wait_of option) k level (argument_of option a)) (wait_of option)) (queue_request_plan t (asks (caller t) (wait_of option) k level (argument_of option a)) (wait_of option))) t
      go true f = start-good t w h k level (argument_of option a) fair there few (ap one f) (wait_of option) (may_wait e)
      go false f = queue-good t w h k level (argument_of option a) fair some (ap one f) (room f) (wait_of option) (may_wait e)
