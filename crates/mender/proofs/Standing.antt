-- In a clean table every link stands: the links' pass leaves the table as it is.
use Prim.Native.Nat.{ℕ, suc, ◌+◌, ◌≤◌, ◌<◌}
use mathlib.Core.Path.{◌≡◌, refl, sym, ap, subst, ◌∙◌}
use mathlib.Core.Bool.{Bool, true, false, not, cond}
use mathlib.Core.List.{List}
use native.Mathlib.Omega.{arith}
use borrow.Author.Tests.{eqb-true, eq-eqb}
use lib.Dec.{eqb, leb, ltb}
use lib.ListN.{length, take, set, get_or}
use lib.Seq.{take_all, get_or-take, length-take-le, set-get_or}
use Rattle.executive.specs.declared.State.TheVariants.{Dormant}
use Rattle.executive.specs.declared.Task.{Task}
use Rattle.executive.specs.declared.Request.{Request}
use Rattle.executive.specs.declared.Rest.{Rest}
use Rattle.executive.specs.declared.Table.{Table}
use Rattle.executive.specs.Lists.{one, sum_of, ◌and◌}
use Rattle.executive.specs.Places.{no_task, no_request, task_at}
use Rattle.executive.specs.States.{await_start, await_end, is_of, is}
use Rattle.executive.specs.Rest.{remade}
use Rattle.executive.specs.Pool.{requests}
use Rattle.executive.specs.Messages.{mail_at}
use Rattle.executive.specs.WellFormed.{starts_of, ends_of, runs_of}
use Rattle.executive.specs.Check.{is_nobody}
use Rattle.executive.proofs.Assured.{false_not_true, true_and, eqb_self, not-zero, one-le, one_true, one-zero, Lt, lt_yes, lt_no, ltb-is, Le, le_yes, le-no, leb-is}
use Rattle.mender.specs.Links.{Runs}
use Rattle.mender.specs.Links.{Asked}
use Rattle.mender.specs.Links.{Links}
use Rattle.mender.specs.Passes.{laid, named_at, stands, unlinked, run_turn, none_named, linked_runs, marked, startless, endless, start_turn, end_turn, request_turn, linked_requests, link_pass}
use Rattle.mender.proofs.Turns.{each_keeps}
use Rattle.mender.proofs.Passed.{Clean}
use Rattle.mender.proofs.OwnRules.{beyond-right}
use Rattle.mender.proofs.Queued.{pad-sum}
use Rattle.mender.proofs.Sums.{sum_one}
use Rattle.mender.proofs.Linked.{stands-is, is-stands, Running, run-turn, runs-begin}
use Rattle.mender.proofs.Asking.{starter, ender, turn_of, Asking, request-turn, asking-begin}
use Rattle.mender.proofs.LinkPass.{pool-places, free-past}

-- ---- a request's turn that changes nothing of it: its waiter is nobody, or the link stands
module _ (n : ℕ) (ts : List Task) where
  start_none : (q : Request) (bs : List Bool) → 0 ≡ q.start_waiter.0 → start_turn n ts (record { request = q; named = bs }) ≡ record { request = q; named = bs }
  unfolding start_turn
  start_none q bs z = go (stands n ts bs await_start q.target.0 q.start_waiter) refl
    where
      go : (b : Bool) → stands n ts bs await_start q.target.0 q.start_waiter ≡ b
          → cond {A = Asked} b (record { request = q; named = marked bs q.start_waiter.0 }) (record { request = startless q; named = bs }) ≡ record { request = q; named = bs }
      go true f = absurd (omega (arith, (stands-is n ts bs await_start q.target.0 q.start_waiter f).low))
      go false f =
          λ j. record {
            request = record { target = q.target; priority = q.priority; argument = q.argument; start_waiter = record { 0 = z j }; end_waiter = q.end_waiter };
            named = bs;
          }

  start-some : (q : Request) (bs : List Bool) → stands n ts bs await_start q.target.0 q.start_waiter ≡ true
      → (start_turn n ts (record { request = q; named = bs })).request ≡ q
  unfolding start_turn
  start-some q bs e = rw e refl

  end_none : (a : Asked) → 0 ≡ a.request.end_waiter.0 → (end_turn n ts a).request ≡ a.request
  unfolding end_turn
  end_none a z = go (is_nobody q.start_waiter and stands n ts a.named await_end q.target.0 q.end_waiter)
    where
      q : Request
      q = a.request

      go : (b : Bool) → (cond {A = Asked} b (record { request = q; named = marked a.named q.end_waiter.0 }) (record { request = endless q; named = a.named })).request ≡ q
      go true = refl
      go false = λ j. record { target = q.target; priority = q.priority; argument = q.argument; start_waiter = q.start_waiter; end_waiter = record { 0 = z j } }

  end-some : (a : Asked) → is_nobody a.request.start_waiter and stands n ts a.named await_end a.request.target.0 a.request.end_waiter ≡ true
      → (end_turn n ts a).request ≡ a.request
  unfolding end_turn
  end-some a e = rw e refl

-- whoever is in the state that is asked for, and counted nowhere yet, is not named
fresh-of : (b x : Bool) → x ≡ true → one (b and x) ≡ 0 → b ≡ false
fresh-of true x e h = absurd (omega (arith, ap one e))
fresh-of false x e h = refl

module _ (u : Table) (c : Clean u) (hn : u.rest.count ≤ 16) where
  abbrev r : Rest
  r = u.rest

  abbrev n : ℕ
  n = r.count

  abbrev ts : List Task
  ts = u.tasks

  abbrev p : List Request
  p = r.pool

  -- who waits is a task of the table
  within : (kind w : ℕ) → is_of kind Dormant ≡ false → is_of kind (task_at ts w).state ≡ true → w ≤ n
  within kind w d h = go (leb w n) (leb-is w n)
    where
      go : (b : Bool) → Le w n b → w ≤ n
      go true (le_yes g) = g
      go false (le-no g) =
          let z : task_at ts w ≡ no_task = (beyond-right r w (task_at ts w) (mail_at r.mail w) (c.owned.own w) g).0 in
          false_not_true (sym d ∙ (rw z at h))

  -- ---- the runs
  run-stands : (i : ℕ) (bs : List Bool) → i < 16 → Running ts i (record { tasks = ts; named = bs }) → 0 < (get_or ts i no_task).end_waiter.0
      → stands n ts bs await_end (suc i) (get_or ts i no_task).end_waiter ≡ true
  unfolding task_at
  run-stands i bs h x g =
      let w : ℕ = (get_or ts i no_task).end_waiter.0 in
      let s : runs_of w (take i ts) + one (eqb w w) ≤ runs_of w ts =
      sum_one (λ (e : Task). one (eqb w e.end_waiter.0)) no_task ts i (omega (arith, c.owned.tasks)) in
      let y : one (eqb w w) ≡ 1 = ap one (eqb_self w) in
      let z : ends_of w (requests r) + runs_of w ts ≡ is await_end (task_at ts w).state = c.links.ends w g in
      let m : is await_end (task_at ts w).state ≤ 1 = one-le (is_of await_end (task_at ts w).state) in
      let e : is_of await_end (task_at ts w).state ≡ true = one_true (is_of await_end (task_at ts w).state) (omega arith) in
      let f : runs_of w (take i ts) ≡ one (named_at bs w and is_of await_end (task_at ts w).state) = x.runs w g in
      is-stands n ts bs await_end (suc i) (get_or ts i no_task).end_waiter (record {
        low = g;
        high = within await_end w refl e;
        other = c.links.apart (suc i) (omega arith);
        waits = e;
        fresh = fresh-of (named_at bs w) (is_of await_end (task_at ts w).state) e (omega arith);
      })

  run-stays : (i : ℕ) (bs : List Bool) → i < 16 → Running ts i (record { tasks = ts; named = bs }) → (run_turn n (record { tasks = ts; named = bs }) i).tasks ≡ ts
  unfolding run_turn
  run-stays i bs h x = go (stands n ts bs await_end (suc i) e.end_waiter) refl
    where
      e : Task
      e = get_or ts i no_task

      none : stands n ts bs await_end (suc i) e.end_waiter ≡ false → (b : Bool) → Lt 0 e.end_waiter.0 b → 0 ≡ e.end_waiter.0
      none f true (lt_yes g) = false_not_true (sym f ∙ run-stands i bs h x g)
      none f false (lt_no g) = omega arith

      go : (b : Bool) → stands n ts bs await_end (suc i) e.end_waiter ≡ b
          → (cond {A = Runs} b (record { tasks = ts; named = marked bs e.end_waiter.0 }) (record { tasks = set ts i (unlinked e); named = bs })).tasks ≡ ts
      go true f = refl
      go false f =
          let z : 0 ≡ e.end_waiter.0 = none f (ltb 0 e.end_waiter.0) (ltb-is 0 e.end_waiter.0) in
          let y : unlinked e ≡ e =
          λ j. record { own = e.own; priority = e.priority; argument = e.argument; end_waiter = record { 0 = z j }; state = e.state; start = e.start } in
          ap (λ (x : Task). set ts i x) y ∙ set-get_or ts i no_task

  runs-stay : Running ts 16 (linked_runs n ts) × ((linked_runs n ts).tasks ≡ ts)
  unfolding linked_runs
  runs-stay =
      each_keeps (run_turn n) (λ i x. Running ts i x × (x.tasks ≡ ts)) 16 0 (record { tasks = ts; named = none_named }) (runs-begin ts c.owned.tasks, refl) turn
    where
      turn : (i : ℕ) (x : Runs) → 0 ≤ i → i < 0 + 16 → Running ts i x × (x.tasks ≡ ts) → Running ts (i + 1) (run_turn n x i) × ((run_turn n x i).tasks ≡ ts)
      turn i x g h y =
          let q : x ≡ record { tasks = ts; named = x.named } = λ j. record { tasks = y.1 j; named = x.named } in (
            run-turn n hn ts i x (omega arith) y.0,
            ap (λ (z : Runs). (run_turn n z i).tasks) q ∙ run-stays i x.named (omega arith) (subst (λ (z : Runs). Running ts i z) q y.0),
          )

  -- ---- the requests: how often a waiter is named at all, and at one place
  in_pool : (f : Request → ℕ) → f no_request ≡ 0 → sum_of f p ≡ sum_of f (requests r)
  in_pool f z = ap (sum_of f) c.queued.pool.clear ∙ pad-sum f no_request 32 (requests r) z

  -- a place where a waiter is named is not free, and what is 0 in all is 0 there
  none-at : (f : Request → ℕ) → sum_of f (requests r) ≡ 0 → (i : ℕ) → (get_or p i no_request ≡ no_request → ⊥) → f (get_or p i no_request) ≡ 0
  none-at f z i taken = go (ltb i r.queued) (ltb-is i r.queued)
    where
      go : (b : Bool) → Lt i r.queued b → f (get_or p i no_request) ≡ 0
      go true (lt_yes h) =
          let l : length (requests r) ≡ r.queued = length-take-le r.queued p (omega (arith, pool-places r c.queued.pool, c.queued.pool.room)) in
          let s : sum_of f (take i (requests r)) + f (get_or (requests r) i no_request) ≤ sum_of f (requests r) = sum_one f no_request (requests r) i (omega arith) in
          let y : get_or (requests r) i no_request ≡ get_or p i no_request = get_or-take r.queued p i no_request h in
          rw (← y) (omega arith)
      go false (lt_no h) = absurd (taken (free-past r c.queued.pool i h))

  module _ (i : ℕ) (bs : List Bool) (h : i < 32) (x : Asking ts p i (record { pool = p; named = bs })) where
    abbrev q : Request
    q = get_or p i no_request

    room : i < length p
    room = omega (arith, pool-places r c.queued.pool)

    start-stands : 0 < q.start_waiter.0 → stands n ts bs await_start q.target.0 q.start_waiter ≡ true
    start-stands g =
        let w : ℕ = q.start_waiter.0 in
        let s : starts_of w (take i p) + one (eqb w w) ≤ starts_of w p = sum_one (λ (e : Request). one (eqb w e.start_waiter.0)) no_request p i room in
        let y : one (eqb w w) ≡ 1 = ap one (eqb_self w) in
        let a : starts_of w p ≡ starts_of w (requests r) = in_pool (λ (e : Request). one (eqb w e.start_waiter.0)) (ap one (not-zero w g)) in
        let z : starts_of w (requests r) ≡ is await_start (task_at ts w).state = c.links.starts w g in
        let m : is await_start (task_at ts w).state ≤ 1 = one-le (is_of await_start (task_at ts w).state) in
        let e : is_of await_start (task_at ts w).state ≡ true = one_true (is_of await_start (task_at ts w).state) (omega arith) in
        let f : starts_of w (take i p) ≡ one (named_at bs w and starter ts w) = x.starts w g in
        let o : one (eqb q.target.0 w) + one (eqb q.target.0 q.end_waiter.0) ≡ 0 =
        none-at (λ (e : Request). one (eqb e.target.0 e.start_waiter.0) + one (eqb e.target.0 e.end_waiter.0)) c.links.others i
        (λ d. omega (arith, ap (λ (e : Request). e.start_waiter.0) d)) in
        is-stands n ts bs await_start q.target.0 q.start_waiter (record {
          low = g;
          high = within await_start w refl e;
          other = one-zero (eqb q.target.0 w) (omega arith);
          waits = e;
          fresh = fresh-of (named_at bs w) (starter ts w) e (omega arith);
        })

    end-stands : 0 < q.end_waiter.0 → stands n ts bs await_end q.target.0 q.end_waiter ≡ true
    end-stands g =
        let w : ℕ = q.end_waiter.0 in
        let s : ends_of w (take i p) + one (eqb w w) ≤ ends_of w p = sum_one (λ (e : Request). one (eqb w e.end_waiter.0)) no_request p i room in
        let y : one (eqb w w) ≡ 1 = ap one (eqb_self w) in
        let a : ends_of w p ≡ ends_of w (requests r) = in_pool (λ (e : Request). one (eqb w e.end_waiter.0)) (ap one (not-zero w g)) in
        let z : ends_of w (requests r) + runs_of w ts ≡ is await_end (task_at ts w).state = c.links.ends w g in
        let m : is await_end (task_at ts w).state ≤ 1 = one-le (is_of await_end (task_at ts w).state) in
        let e : is_of await_end (task_at ts w).state ≡ true = one_true (is_of await_end (task_at ts w).state) (omega arith) in
        let f : ends_of w (take i p) + runs_of w ts ≡ one (named_at bs w and ender ts w) = x.ends w g in
        let o : one (eqb q.target.0 q.start_waiter.0) + one (eqb q.target.0 w) ≡ 0 =
        none-at (λ (e : Request). one (eqb e.target.0 e.start_waiter.0) + one (eqb e.target.0 e.end_waiter.0)) c.links.others i
        (λ d. omega (arith, ap (λ (e : Request). e.end_waiter.0) d)) in
        is-stands n ts bs await_end q.target.0 q.end_waiter (record {
          low = g;
          high = within await_end w refl e;
          other = one-zero (eqb q.target.0 w) (omega arith);
          waits = e;
          fresh = fresh-of (named_at bs w) (ender ts w) e (omega arith);
        })

    -- who waits for the start of a request that has no other waiter
    single : 0 < q.start_waiter.0 → 0 ≡ q.end_waiter.0
    single g =
        let z : cond (eqb q.start_waiter.0 0) 0 (one (not (eqb q.end_waiter.0 0))) ≡ 0 =
        none-at (λ (e : Request). cond (eqb e.start_waiter.0 0) 0 (one (not (eqb e.end_waiter.0 0)))) c.links.single i
        (λ d. omega (arith, ap (λ (e : Request). e.start_waiter.0) d)) in
        go (eqb q.end_waiter.0 0) refl (rw (not-zero q.start_waiter.0 g) at z)
      where
        go : (b : Bool) → eqb q.end_waiter.0 0 ≡ b → one (not b) ≡ 0 → 0 ≡ q.end_waiter.0
        go true e z = sym (eqb-true q.end_waiter.0 0 e)
        go false e z = absurd (omega arith)

    turn-stays : (turn_of n ts q bs).request ≡ q
    turn-stays = go (ltb 0 q.start_waiter.0) (ltb-is 0 q.start_waiter.0) (ltb 0 q.end_waiter.0) (ltb-is 0 q.end_waiter.0)
      where
        go : (a : Bool) → Lt 0 q.start_waiter.0 a → (b : Bool) → Lt 0 q.end_waiter.0 b → (turn_of n ts q bs).request ≡ q
        go true (lt_yes g) b y =
            let s : (start_turn n ts (record { request = q; named = bs })).request ≡ q = start-some n ts q bs (start-stands g) in
            end_none n ts (start_turn n ts (record { request = q; named = bs })) (single g ∙ sym (ap (λ (e : Request). e.end_waiter.0) s)) ∙ s
        go false (lt_no g) true (lt_yes y) =
            ap (λ (a : Asked). (end_turn n ts a).request) (start_none n ts q bs (omega arith))
            ∙ end-some n ts (record { request = q; named = bs }) (true_and (is_nobody q.start_waiter) _ (eq-eqb q.start_waiter.0 0 (omega arith)) (end-stands y))
        go false (lt_no g) false (lt_no y) =
            ap (λ (a : Asked). (end_turn n ts a).request) (start_none n ts q bs (omega arith)) ∙ end_none n ts (record { request = q; named = bs }) (omega arith)

    request_stays : (request_turn n ts (record { pool = p; named = bs }) i).pool ≡ p
    unfolding request_turn
    request_stays = ap (λ (e : Request). set p i e) turn-stays ∙ set-get_or p i no_request

  requests-stay : (bs : List Bool) → length bs ≡ 16 → ((w : ℕ) → 0 < w → runs_of w ts ≡ one (named_at bs w and ender ts w))
      → ((w : ℕ) → one (named_at bs w and starter ts w) ≡ 0) → Asking ts p 32 (linked_requests n ts p bs) × ((linked_requests n ts p bs).pool ≡ p)
  unfolding linked_requests
  requests-stay bs m runs none =
      each_keeps (request_turn n ts) (λ i l. Asking ts p i l × (l.pool ≡ p)) 32 0 (record { pool = p; named = bs })
      (asking-begin n hn ts bs m p (pool-places r c.queued.pool) runs none, refl) turn
    where
      turn : (i : ℕ) (l : Links) → 0 ≤ i → i < 0 + 32 → Asking ts p i l × (l.pool ≡ p) → Asking ts p (i + 1) (request_turn n ts l i) × ((request_turn n ts l i).pool ≡ p)
      turn i l g h y =
          let q : l ≡ record { pool = p; named = l.named } = λ j. record { pool = y.1 j; named = l.named } in (
            request-turn n hn ts p i l (omega arith) y.0,
            ap (λ (z : Links). (request_turn n ts z i).pool) q ∙ request_stays i l.named (omega arith) (subst (λ (z : Links). Asking ts p i z) q y.0),
          )

  -- ---- the pass
  pub link_same : (link_pass u).table ≡ u
  unfolding link_pass
  link_same =
      let l : Runs = linked_runs n ts in
      let x : Running ts 16 l = runs-stay.0 in
      let a : l.tasks ≡ ts = runs-stay.1 in
      let e : take 16 l.tasks ≡ ts = take_all 16 l.tasks (omega (arith, x.tasks)) ∙ a in
      let b : (linked_requests n l.tasks p l.named).pool ≡ p =
      ap (λ (us : List Task). (linked_requests n us p l.named).pool) a ∙ (requests-stay l.named x.named (λ w g. rw e at (x.runs w g)) x.none).1 in
      λ j. laid (a j) (remade r.clock r.flags r.alarms (b j) r.queued r) u
