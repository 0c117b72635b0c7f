-- The working form of a well-formed table: the rules grouped by what a step changes. It says what `WellFormed` says,
-- both ways.
use mathlib.Core.Path.{◌≡◌, refl, ap, ◌∙◌}
use mathlib.Core.Bool.{Bool, true, false, ◌&&◌}
use mathlib.Core.List.{List, [], ◌∷◌}
use Prim.Native.Nat.{ℕ, zero, suc, ◌+◌, ◌≤◌, ◌<◌, zero-le}
use native.Mathlib.Omega.{arith}
use borrow.Author.Tests.{eqb-true}
use lib.Dec.{leb, eqb, ltb, eqb→eq}
use lib.ListN.{length, get_or, get_or-eq_default}
use lib.Seq.{length-take-le}
use Rattle.executive.specs.declared.State.{State}
use Rattle.executive.specs.declared.Task.{Task}
use Rattle.executive.specs.declared.Request.{Request}
use Rattle.executive.specs.declared.Sub.{Sub}
use Rattle.executive.specs.declared.Rest.{Rest}
use Rattle.executive.specs.declared.Table.{Table}
use Rattle.executive.specs.Numbers.{most_tasks, flag_count, sub_count, last_sub, highest, most_granule, end_of_time}
use Rattle.executive.specs.Lists.{one, sum_of}
use Rattle.executive.specs.Pool.{PoolInOrder, requests}
use Rattle.executive.specs.Table.{ArraysInOrder, line, items, view, levels_of}
use Rattle.executive.specs.Queue.{count}
use Rattle.executive.specs.Subprograms.{no_subprogram, sub_at, line_of, LineInOrder}
use Rattle.executive.specs.Places.{nobody, never, no_task, task_at}
use Rattle.executive.specs.States.{dormant, await_start, await_end, await_sub, awaited_of, is_of, is, is_dormant, is_ready, waits_for}
use Rattle.executive.specs.WellFormed.{targets_of, starts_of, ends_of, runs_of, over_priority, out_of_range, waits_for_itself, two_waiters, dormant_target, Line, Stored, Timely, Unmet, Zeros, InRange, Subprograms, WellFormed}
use Rattle.executive.proofs.states.Laws.{dormant-named, dormant-kind}
use Rattle.executive.proofs.Lists.Tests.{So-of_true, eqb_self, not-zero, Le, le_yes, le-no, leb-is, Lt, lt_yes, lt_no, ltb-is, false_not_true}
use Rattle.executive.proofs.Lists.Pad.{length-pad}
use Rattle.executive.proofs.queue.ArraysAreLists.{queue-length, pool-length, take-le}
use Rattle.executive.proofs.check.Levels.{levels-get, levels_make}
use Rattle.executive.proofs.messages.Arrays.{messages-length}
use Rattle.executive.proofs.messages.Kept.{MailOk, mail-messages}

-- nothing in this state is due now, at the clock c with the flags fs
abbrev pub StateOk : ℕ → ℕ → State → Type 0
StateOk c fs s = Timely c s × Unmet fs s

-- the rules on the entry of task k alone, of n tasks
pub record EntryOk (c fs n k : ℕ) (e : Task) : Type 0 where
  pub calm : StateOk c fs e.state
  pub started : e.start.0 ≤ c
  pub level : e.priority ≤ highest
  pub home : e.own ≤ highest
  pub zeros : is dormant e.state ≡ 1 → Zeros e
  pub beyond : n < k → e ≡ no_task

-- the links, and the requests' targets
pub record LinksOk (ts : List Task) (p : List Request) : Type 0 where
  pub starts : (k : ℕ) → 0 < k → starts_of k p ≡ is await_start (task_at ts k).state
  pub ends : (k : ℕ) → 0 < k → ends_of k p + runs_of k ts ≡ is await_end (task_at ts k).state
  pub others : waits_for_itself p ≡ 0
  pub apart : (k : ℕ) → 0 < k → eqb k (task_at ts k).end_waiter.0 ≡ false
  pub single : two_waiters p ≡ 0
  pub named : targets_of 0 p ≡ 0
  pub busy : (k : ℕ) → 0 < k → is dormant (task_at ts k).state ≡ 1 → targets_of k p ≡ 0
  pub quiet : (k : ℕ) → is dormant (task_at ts k).state ≡ 1 → (task_at ts k).end_waiter.0 ≡ 0

-- the rules on the rest alone
pub record RestOk (r : Rest) : Type 0 where
  pub count : (1 ≤ r.count) × (r.count ≤ most_tasks)
  pub granule : (1 ≤ r.granule) × (r.granule ≤ most_granule)
  pub clocked : r.clock.0 ≤ end_of_time
  pub sized : length r.alarms ≡ flag_count
  pub alarms : (i : ℕ) → 0 < (get_or r.alarms i never).0 → Stored r.clock.0 (get_or r.alarms i never).0
  pub priorities : over_priority (requests r) ≡ 0
  pub neat : PoolInOrder r

-- the rule of subprogram m, which is s; of all the subprograms ss, those past the last number included, which are free
pub record SubOk (ts : List Task) (m : ℕ) (s : Sub) : Type 0 where
  pub neat : LineInOrder s
  pub busy : 0 < s.holder.0 → is dormant (task_at ts s.holder.0).state ≡ 0
  pub free : s.holder.0 ≡ 0 → s.waiting ≡ 0
  pub waiters : Line (waits_for m) ts (line_of s)

pub record SubsOk (ts : List Task) (ss : List Sub) : Type 0 where
  pub sized : length ss ≡ sub_count
  pub each : (m : ℕ) → SubOk ts m (get_or ss m no_subprogram)

-- the entries of all tasks, beside a rest
abbrev pub EntriesOk : Rest → List Task → Type 0
EntriesOk r ts = (k : ℕ) → EntryOk r.clock.0 r.flags r.count k (task_at ts k)

pub record WellFormedByPart (t : Table) : Type 0 where
  pub fit : ArraysInOrder t
  pub queue : Line is_ready t.tasks (line t)
  pub links : LinksOk t.tasks (requests t.rest)
  pub own : EntriesOk t.rest t.tasks
  pub rested : RestOk t.rest
  pub lit : t.levels ≡ levels_of (view t)
  pub lined : SubsOk t.tasks t.rest.subs
  pub mailed : MailOk t.tasks t.rest

-- ---- one entry
-- the blank entry is in order at any number
pub blank-own : {c fs n k : ℕ} → EntryOk c fs n k no_task
blank-own = record { calm = (false_not_true, false_not_true); started = zero-le; level = zero-le; home = zero-le; zeros = λ _. record { priority = refl; argument = refl; start = refl; waiter = refl }; beyond = λ _. refl }

-- a busy task's number is at most the count
pub busy-within : {c fs n k : ℕ} {e : Task} → EntryOk c fs n k e → is dormant e.state ≡ 0 → k ≤ n
busy-within {c} {fs} {n} {k} {e} o b = go (ltb n k) (ltb-is n k)
  where
    go : (x : Bool) → Lt n k x → k ≤ n
    go true (lt_yes h) = absurd (omega (arith, rw (o.beyond h) at b))
    go false (lt_no h) = h

-- a busy task's entry owes neither zeros nor blanks
pub busy-own : {c fs n k : ℕ} {e : Task} → StateOk c fs e.state → e.start.0 ≤ c → e.priority ≤ highest → e.own ≤ highest → is dormant e.state ≡ 0 → k ≤ n → EntryOk c fs n k e
busy-own m s l h b i = record { calm = m; started = s; level = l; home = h; zeros = λ z. absurd (omega arith); beyond = λ z. absurd (omega arith) }

-- ---- requests' targets: none is dormant, said of the sum and of each number
idle-at : (ts : List Task) (p : List Request) → dormant_target ts p ≡ 0 → (k : ℕ) → is dormant (task_at ts k).state ≡ 1 → targets_of k p ≡ 0
unfolding sum_of
idle-at ts [] z k d = refl
idle-at ts (r ∷ p) z k d = go (eqb k r.target.0) refl (idle-at ts p (omega arith) k d)
  where
    go : (b : Bool) → eqb k r.target.0 ≡ b → targets_of k p ≡ 0 → one b + targets_of k p ≡ 0
    go true e ih = absurd (omega (arith, z, d, ap (λ (n : ℕ). is dormant (task_at ts n).state) (eqb→eq k r.target.0 (So-of_true (eqb k r.target.0) e))))
    go false e ih = omega arith

idle-none : (ts : List Task) (p : List Request) → ((k : ℕ) → is dormant (task_at ts k).state ≡ 1 → targets_of k p ≡ 0) → dormant_target ts p ≡ 0
unfolding sum_of
idle-none ts [] h = refl
idle-none ts (r ∷ p) h = go (is_dormant (task_at ts r.target.0).state) refl (idle-none ts p (λ k d. omega (arith, h k d)))
  where
    go : (b : Bool) → is_dormant (task_at ts r.target.0).state ≡ b → dormant_target ts p ≡ 0 → one b + dormant_target ts p ≡ 0
    go true e ih = absurd (omega (arith, h r.target.0 (ap one e), ap one (eqb_self r.target.0)))
    go false e ih = omega arith

-- ---- names: none is over n, said of each number over n and of the sum
wild_none : (n : ℕ) (p : List Request) → ((k : ℕ) → n < k → (targets_of k p ≡ 0) × (starts_of k p ≡ 0) × (ends_of k p ≡ 0)) → out_of_range n p ≡ 0
unfolding sum_of
wild_none n [] h = refl
wild_none n (r ∷ p) h =
    omega (
      arith,
      over r.target.0 (λ g. omega (arith, (h r.target.0 g).0, ap one (eqb_self r.target.0))),
      over r.start_waiter.0 (λ g. omega (arith, (h r.start_waiter.0 g).1, ap one (eqb_self r.start_waiter.0))),
      over r.end_waiter.0 (λ g. omega (arith, (h r.end_waiter.0 g).2, ap one (eqb_self r.end_waiter.0))),
      wild_none n p (λ k g. (omega (arith, (h k g).0), omega (arith, (h k g).1), omega (arith, (h k g).2))),
    )
  where
    over : (m : ℕ) → (n < m → ⊥) → one (ltb n m) ≡ 0
    over m none = go (ltb n m) (ltb-is n m)
      where
        go : (b : Bool) → Lt n m b → one b ≡ 0
        go true (lt_yes g) = absurd (none g)
        go false (lt_no g) = refl

-- one summand is at most the sum
pub term_le : {A : Type 0} (f : A → ℕ) (d : A) (l : List A) (i : ℕ) → f d ≡ 0 → f (get_or l i d) ≤ sum_of f l
unfolding sum_of
term_le f d [] i z = omega arith
term_le f d (x ∷ xs) zero z = omega arith
term_le f d (x ∷ xs) (suc i) z = omega (arith, term_le f d xs i z)

runs-le : (w : ℕ) (ts : List Task) (k : ℕ) → 0 < w → one (eqb w (task_at ts k).end_waiter.0) ≤ runs_of w ts
unfolding task_at
runs-le w ts zero h = omega (arith, ap one (not-zero w h))
runs-le w ts (suc i) h = term_le (λ (e : Task). one (eqb w e.end_waiter.0)) no_task ts i (ap one (not-zero w h))

-- ---- the subprograms
-- a line in good order: sixteen places, as many taken as wait
pub line-places : (s : Sub) → LineInOrder s → length s.line ≡ 16
line-places s o = ap length o.clear ∙ length-pad nobody 16 (line_of s) (omega (arith, take-le s.waiting s.line, o.room))

pub line-waiting : (s : Sub) → LineInOrder s → length (line_of s) ≡ s.waiting
line-waiting s o = length-take-le s.waiting s.line (omega (arith, line-places s o, o.room))

-- past the last number there is none
past-sub : (ss : List Sub) (m : ℕ) → length ss ≡ sub_count → sub_count ≤ m → get_or ss m no_subprogram ≡ no_subprogram
past-sub ss m l h = get_or-eq_default ss no_subprogram {n = m} (omega arith)

pub sub_of : (t : Table) → InRange t → Subprograms t.tasks t.rest → (m : ℕ) → SubOk t.tasks m (sub_at t.rest m)
unfolding items count
sub_of t n s m = record {
  neat = record { room = n.waiting m; clear = s.tidy m };
  busy = s.busy m;
  free = s.free m;
  waiters = go (ltb m sub_count) (ltb-is m sub_count);
}
  where
    nobody-waits : sub_count ≤ m → (k : ℕ) → 0 ≡ one (waits_for m (task_at t.tasks k).state)
    nobody-waits h k = by (is_of await_sub (task_at t.tasks k).state) (eqb m (awaited_of (task_at t.tasks k).state)) refl refl
      where
        by : (a b : Bool) → is_of await_sub (task_at t.tasks k).state ≡ a → eqb m (awaited_of (task_at t.tasks k).state) ≡ b → 0 ≡ one (a && b)
        by true true x y = absurd (omega (arith, n.inside k x, eqb-true m (awaited_of (task_at t.tasks k).state) y))
        by true false x y = refl
        by false b x y = refl

    go : (b : Bool) → Lt m sub_count b → Line (waits_for m) t.tasks (line_of (sub_at t.rest m))
    go true (lt_yes h) = s.lines m h
    go false (lt_no h) = rw (past-sub t.rest.subs m n.sizes.subs h) (record { exact = nobody-waits h; sorted = tt })

-- ---- the two forms
pub formed : {t : Table} → WellFormed t → WellFormedByPart t
unfolding task_at
formed {t} w =
    let n = w.numbers in
    record {
      fit = record { all = n.sizes.tasks; few = n.ready; tidy = w.queue.tidy; neat = record { room = n.queued; clear = w.pool } };
      queue = w.queue.exactly;
      links = record {
        starts = w.waiters.starts;
        ends = w.waiters.ends;
        others = w.waiters.others;
        apart = w.waiters.apart;
        single = w.waiters.single;
        named = idle-at t.tasks (requests t.rest) w.busy 0 refl;
        busy = λ k _. idle-at t.tasks (requests t.rest) w.busy k;
        quiet = λ k z. (w.dormant k (dormant-named _ z)).waiter;
      };
      own = λ k. record {
        calm = (w.times.tasks k, w.masks k);
        started = w.started k;
        level = n.priority k;
        home = n.own k;
        zeros = λ z. w.dormant k (dormant-named _ z);
        beyond = n.beyond k;
      };
      rested = record {
        count = n.count;
        granule = n.granule;
        clocked = n.clock;
        sized = n.sizes.alarms;
        alarms = w.times.alarms;
        priorities = n.priorities;
        neat = record { room = n.queued; clear = w.pool };
      };
      lit = levels_make t w.queue.exactly n.priority w.levels;
      lined = record { sized = n.sizes.subs; each = sub_of t n w.subprograms };
      mailed = record {
        neat = record { room = n.sent; clear = w.messages.tidy };
        places = n.sizes.mail;
        names = n.letters;
        sorted = w.messages.sorted;
        unmet = w.messages.unmet;
        senders = n.senders;
        mail = n.mail;
        emptied = w.emptied;
      };
    }

module _ (t : Table) (w : WellFormedByPart t) where
  abbrev ts : List Task
  ts = t.tasks

  abbrev p : List Request
  p = requests t.rest

  -- nobody over the count waits
  over_none : (k : ℕ) → t.rest.count < k → (targets_of k p ≡ 0) × (starts_of k p ≡ 0) × (ends_of k p + runs_of k ts ≡ 0)
  over_none k h =
      let e : task_at ts k ≡ no_task = (w.own k).beyond h in
      let g : 0 < k = omega arith in
      (w.links.busy k g (rw e refl), w.links.starts k g ∙ rw e refl, w.links.ends k g ∙ rw e refl)

  waiter-le : (k : ℕ) → (task_at ts k).end_waiter.0 ≤ t.rest.count
  waiter-le k = go (ltb t.rest.count (task_at ts k).end_waiter.0) (ltb-is t.rest.count (task_at ts k).end_waiter.0)
    where
      go : (b : Bool) → Lt t.rest.count (task_at ts k).end_waiter.0 b → (task_at ts k).end_waiter.0 ≤ t.rest.count
      go true (lt_yes h) = absurd (omega (
        arith,
        (over_none (task_at ts k).end_waiter.0 h).2,
        runs-le (task_at ts k).end_waiter.0 ts k (omega arith),
        ap one (eqb_self (task_at ts k).end_waiter.0),
      ))
      go false (lt_no h) = h

  any-idle : (k : ℕ) → is dormant (task_at ts k).state ≡ 1 → targets_of k p ≡ 0
  any-idle zero z = w.links.named
  any-idle (suc k) z = w.links.busy (suc k) (omega arith) z

  abbrev sub : ℕ → Sub
  sub m = sub_at t.rest m

  holder-le : (m : ℕ) → (sub m).holder.0 ≤ t.rest.count
  holder-le m = go (ltb 0 (sub m).holder.0) (ltb-is 0 (sub m).holder.0)
    where
      go : (b : Bool) → Lt 0 (sub m).holder.0 b → (sub m).holder.0 ≤ t.rest.count
      go true (lt_yes h) = busy-within (w.own (sub m).holder.0) ((w.lined.each m).busy h)
      go false (lt_no h) = omega arith

  -- whoever waits for a subprogram stands in its line, and past the last number there is none
  awaited-le : (k : ℕ) → is_of await_sub (task_at ts k).state ≡ true → awaited_of (task_at ts k).state ≤ last_sub
  unfolding items count
  awaited-le k h = go (leb m last_sub) (leb-is m last_sub)
    where
      m : ℕ
      m = awaited_of (task_at ts k).state

      go : (b : Bool) → Le m last_sub b → m ≤ last_sub
      go true (le_yes g) = g
      go false (le-no g) =
          let x : 0 ≡ one (is_of await_sub (task_at ts k).state && eqb m m) = rw (past-sub t.rest.subs m w.lined.sized (omega arith)) at ((w.lined.each m).waiters.exact k) in
          absurd (omega (arith, rw (h, eqb_self m) at x))

  pub well_formed : WellFormed t
  well_formed = record {
    numbers = record {
      sizes = record {
        tasks = w.fit.all;
        queue = queue-length t w.fit;
        alarms = w.rested.sized;
        pool = pool-length t.rest w.rested.neat;
        subs = w.lined.sized;
        lines = λ m. line-places (sub m) (w.lined.each m).neat;
        messages = messages-length t.rest w.mailed.neat;
        mail = w.mailed.places;
      };
      count = w.rested.count;
      granule = w.rested.granule;
      clock = w.rested.clocked;
      ready = w.fit.few;
      queued = w.rested.neat.room;
      own = λ k. (w.own k).home;
      priority = λ k. (w.own k).level;
      waiter = waiter-le;
      beyond = λ k. (w.own k).beyond;
      priorities = w.rested.priorities;
      names = wild_none t.rest.count p (λ k h. ((over_none k h).0, (over_none k h).1, omega (arith, (over_none k h).2)));
      holders = holder-le;
      waiting = λ m. (w.lined.each m).neat.room;
      inside = awaited-le;
      sent = w.mailed.neat.room;
      letters = w.mailed.names;
      mail = w.mailed.mail;
      senders = w.mailed.senders;
    };
    queue = record { exactly = w.queue; tidy = w.fit.tidy };
    times = record { tasks = λ k. (w.own k).calm.0; alarms = w.rested.alarms };
    started = λ k. (w.own k).started;
    masks = λ k. (w.own k).calm.1;
    busy = idle-none ts p any-idle;
    waiters = record { starts = w.links.starts; ends = w.links.ends; others = w.links.others; apart = w.links.apart; single = w.links.single };
    dormant = λ k z. (w.own k).zeros (dormant-kind _ z);
    emptied = w.mailed.emptied;
    pool = w.rested.neat.clear;
    subprograms = record {
      busy = λ m. (w.lined.each m).busy;
      free = λ m. (w.lined.each m).free;
      lines = λ m _. (w.lined.each m).waiters;
      tidy = λ m. (w.lined.each m).neat.clear;
    };
    messages = mail-messages ts t.rest w.mailed;
    levels = levels-get t w.queue (λ k. (w.own k).level) w.lit;
  }
