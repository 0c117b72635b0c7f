-- The plan of kind 00 is good.
use mathlib.Core.Path.{◌≡◌, refl, ◌∙◌}
use mathlib.Core.Bool.{Bool, true, false, cond}
use mathlib.Core.List.{List, ◌∷◌, ◌++◌}
use Prim.Native.Nat.{ℕ, ◌+◌, ◌≤◌, ◌<◌, zero-le}
use native.Mathlib.Omega.{arith}
use borrow.Author.Tests.{ltb-true, ltb-false}
use lib.Dec.{ltb, eqb}
use lib.ListN.{length, get_or}
use Rattle.records.specs.declared.TaskNo.{TaskNo}
use Rattle.executive.specs.declared.Task.{Task}
use Rattle.executive.specs.declared.Request.{Request}
use Rattle.executive.specs.declared.Table.{Table}
use Rattle.executive.specs.Entries.{as_dormant, begun}
use Rattle.executive.specs.Plans.{end_waiter, begins, waking, terminate_plan}
use Rattle.executive.specs.Lists.{one}
use Rattle.executive.specs.Messages.{no_mail, with_mail}
use Rattle.executive.specs.Pool.{place_of, removed, with_requests, requests}
use Rattle.executive.specs.Places.{no_request, Names, task_at, put_at}
use Rattle.executive.specs.Table.{line, head_of, leaves, Join}
use Rattle.executive.specs.WellFormed.{over_priority}
use Rattle.executive.proofs.Plans.WorkingForm.{EntriesOk, SubsOk, WellFormedByPart, busy-own}
use Rattle.executive.proofs.Lists.Tests.{false_not_true}
use Rattle.executive.proofs.queue.Law.{one-zero}
use Rattle.executive.proofs.Lists.Pad.{line-pad}
use Rattle.executive.proofs.queue.ArraysAreLists.{requests-length, removed-neat}
use Rattle.executive.proofs.places.TaskAt.{at_same, put_length}
use Rattle.executive.proofs.Plans.LinksKept.{LinksUpTo, links-up, up-links}
use Rattle.executive.proofs.Plans.Links.{retire, begin, settle, take, removed-sum, place-target, none-asked}
use Rattle.executive.proofs.Plans.GoodIsKept.{puts, Good}
use Rattle.executive.proofs.Plans.SubsKept.{HoldsNone, AllElse, joined, subs_else}
use Rattle.executive.proofs.Plans.Shared.{EntryOkIn, own_put, ready-own, Runs, runs, Woken, ender_in, starter_in, joins-append, puts-append, wake_other}
use Rattle.executive.proofs.Plans.Shared.{wake_length, inside, pooled, leaves_else, post-rested, gone-mailed}
use Rattle.executive.proofs.messages.Kept.{mail-beside}

module _ (t : Table) (w : WellFormedByPart t) (h : 0 < t.ready) (none : HoldsNone (head_of (line t)).0 t.rest.subs) where
  abbrev c : TaskNo
  c = head_of (line t)

  abbrev rs : List Request
  rs = requests t.rest

  abbrev e : Task
  e = task_at t.tasks c.0

  -- the tasks once the caller has left
  abbrev ts₁ : List Task
  ts₁ = put_at t.tasks c.0 (as_dormant e)

  abbrev Q : ℕ → Task → Type 0
  Q = EntryOkIn t.rest

  asleep-own : EntriesOk t.rest ts₁
  asleep-own = own_put t.rest t.tasks c.0 (as_dormant e) (runs t w h).names (record {
    calm = (false_not_true, false_not_true);
    started = zero-le;
    level = zero-le;
    home = (w.own c.0).home;
    zeros = λ _. record { priority = refl; argument = refl; start = refl; waiter = refl };
    beyond = λ g. absurd (omega (arith, (inside t w h)));
  }) w.own

  retired : LinksUpTo ts₁ rs e.end_waiter.0 0 c.0
  retired = retire t.tasks rs c.0 (as_dormant e) (runs t w h).is-ready refl refl (links-up w.links)

  asleep-lined : SubsOk ts₁ t.rest.subs
  asleep-lined = leaves_else t w h (as_dormant e) refl (λ _. none)

  stop-good : length rs ≤ place_of c.0 rs → Good (record { out = leaves as_dormant; ins = waking (end_waiter t c); rest = with_mail c.0 no_mail t.rest }) t
  unfolding puts
  stop-good n =
      let x : Woken Q (waking (end_waiter t c)) ts₁ rs 0 0 0 =
      ender_in Q (λ k e. ready-own) ts₁ rs (end_waiter t c) 0 0 (settle ts₁ rs (end_waiter t c).0 0 c.0 (none-asked c.0 rs n) retired) asleep-own in
      record {
        leaving = refl;
        joining = joined (waking (end_waiter t c)) ts₁ x.joining;
        linked = up-links x.linked;
        own = x.own;
        rested = post-rested _ _ _ w.rested;
        lined = subs_else (waking (end_waiter t c)) ts₁ x.joining asleep-lined;
        mailed = gone-mailed t w h (as_dormant e) t.rest w.mailed (λ z. false_not_true z);
      }

  run-good : (i : ℕ) → place_of c.0 rs ≡ i → i < length rs → (q : Request) → get_or rs i no_request ≡ q
      → Good (record { out = leaves as_dormant; ins = waking (end_waiter t c) ++ (begins c q t.rest.clock ∷ waking q.start_waiter); rest = with_mail c.0 no_mail (with_requests (removed i rs) t.rest) }) t
  unfolding puts
  run-good i ei m q eq =
      let r : Runs t.tasks c.0 = runs t w h in
      let l : requests (with_mail c.0 no_mail (with_requests (removed i rs) t.rest)) ≡ removed i rs = line-pad no_request 32 (removed i rs) in
      let o : eqb c.0 e.end_waiter.0 ≡ false = w.links.apart c.0 r.names.0 in
      let x : Woken Q (waking (end_waiter t c)) ts₁ rs 0 0 c.0 = ender_in Q (λ k e. ready-own) ts₁ rs (end_waiter t c) 0 c.0 retired asleep-own in
      let ts₂ : List Task = puts (waking (end_waiter t c)) ts₁ in
      let tg : (get_or rs i no_request).target.0 ≡ c.0 = rw ei at (place-target c.0 rs (rw ei m)) in
      let y = rw eq at (take ts₂ rs c.0 c.0 i m tg x.linked) in
      let e₃ : Task = begun q t.rest.clock (task_at ts₂ c.0) in
      let ts₃ : List Task = put_at ts₂ c.0 e₃ in
      let n₂ : Names c.0 ts₂ = (r.names.0, omega (arith, r.names.1, wake_length ts₁ (end_waiter t c), put_length t.tasks c.0 (as_dormant e))) in
      let a₂ : task_at ts₂ c.0 ≡ as_dormant e = wake_other ts₁ (end_waiter t c) c.0 o ∙ at_same t.tasks c.0 (as_dormant e) r.names in
      let b : LinksUpTo ts₃ (removed i rs) 0 q.start_waiter.0 0 =
      begin ts₂ (removed i rs) c.0 e₃ q.end_waiter.0 q.start_waiter.0 n₂ (rw a₂ refl) refl refl y.1 c.0 (λ k h o. o) y.0 in
      let z : one (ltb 15 q.priority) + over_priority (removed i rs) ≡ over_priority rs = rw eq at (removed-sum i rs (λ (r : Request). one (ltb 15 r.priority)) m) in
      let lv : q.priority ≤ 15 = ltb-false 15 q.priority (one-zero (ltb 15 q.priority) (omega (arith, w.rested.priorities))) in
      let v : Woken Q (waking q.start_waiter) ts₃ (removed i rs) 0 0 0 =
      starter_in Q (λ k e. ready-own) ts₃ (removed i rs) 0 q.start_waiter 0 b (own_put t.rest ts₂ c.0 e₃ n₂ (busy-own (false_not_true, false_not_true) (omega arith) lv (x.own c.0).home refl (inside t w h)) x.own) in
      let js : List Join = begins c q t.rest.clock ∷ waking q.start_waiter in
      let u = puts-append (waking (end_waiter t c)) js ts₁ in
      let all : AllElse (waking (end_waiter t c) ++ js) ts₁ =
      joins-append (waking (end_waiter t c)) js ts₁ x.joining (record { names = n₂; before = rw a₂ refl; after = refl }, v.joining) in
      record {
        leaving = refl;
        joining = joined (waking (end_waiter t c) ++ js) ts₁ all;
        linked = rw (u, l) (up-links v.linked);
        own = rw u v.own;
        rested = post-rested _ _ _ (pooled t w h (removed i rs) (removed-neat t.rest w.fit.neat i (omega (arith, requests-length t.rest w.fit.neat))) (omega (arith, w.rested.priorities)));
        lined = subs_else (waking (end_waiter t c) ++ js) ts₁ all asleep-lined;
        mailed = gone-mailed t w h (as_dormant e) (with_requests (removed i rs) t.rest) (mail-beside t.tasks t.rest _ refl refl refl refl w.mailed) (λ z. false_not_true z);
      }

  pub terminate-good : Good (terminate_plan t) t
  unfolding terminate_plan
  terminate-good = go (ltb (place_of c.0 rs) (length rs)) refl
    where
      go : (b : Bool) → ltb (place_of c.0 rs) (length rs) ≡ b
          → Good (cond b
          (record {
            out = leaves as_dormant;
            ins = waking (end_waiter t c) ++ (begins c (get_or rs (place_of c.0 rs) no_request) t.rest.clock ∷ waking (get_or rs (place_of c.0 rs) no_request).start_waiter);
            rest = with_mail c.0 no_mail (with_requests (removed (place_of c.0 rs) rs) t.rest);
          })
          (record { out = leaves as_dormant; ins = waking (end_waiter t c); rest = with_mail c.0 no_mail t.rest })) t
      go true f = run-good (place_of c.0 rs) refl (ltb-true _ _ f) _ refl
      go false f = stop-good (ltb-false _ _ f)
