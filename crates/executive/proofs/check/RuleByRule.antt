-- Each rule of a well-formed table against its test, both ways, in their order.
use Prim.Native.Nat.{ℕ, zero, suc, ◌+◌, ◌-◌, ◌≤◌, ◌<◌}
use mathlib.Core.Path.{◌≡◌, refl, ap, sym, ◌∙◌}
use mathlib.Core.Bool.{Bool, true, false, not, cond}
use mathlib.Core.List.{List, [], ◌∷◌}
use native.Mathlib.Omega.{arith}
use borrow.Author.Tests.{eqb-true, eq-eqb, ne_eqb, leb-true, le-leb, leb-false, ltb-true, lt-ltb, eqb-false}
use lib.Dec.{eqb, leb, ltb}
use lib.ListN.{length, take, drop, get_or}
use Rattle.records.specs.declared.TaskNo.{TaskNo}
use Rattle.executive.specs.declared.Millis.{Millis}
use Rattle.executive.specs.declared.State.{State}
use Rattle.executive.specs.declared.State.TheVariants.{Dormant}
use Rattle.executive.specs.declared.Task.{Task}
use Rattle.executive.specs.declared.Request.{Request}
use Rattle.executive.specs.declared.Sub.{Sub}
use Rattle.executive.specs.declared.Table.{Table}
use Rattle.executive.specs.Numbers.{most_tasks, most_queued, last_sub, highest, most_granule, end_of_time, longest}
use Rattle.executive.specs.Lists.{one, pad, sum_of, ◌and◌, up_to, all_of}
use Rattle.executive.specs.Queue.{count}
use Rattle.executive.specs.Places.{nobody, never, no_task, no_request, task_at}
use Rattle.executive.specs.Table.{items}
use Rattle.executive.specs.Pool.{requests}
use Rattle.executive.specs.Subprograms.{no_subprogram, sub_at}
use Rattle.executive.specs.States.{dormant, await_start, await_end, await_sub, is_of, is, is_dormant, time_of, mask_of, awaited_of, has_time, has_mask, wait_mode, is_ready, await_message, state_kind}
use Rattle.executive.specs.Flags.{met}
use Rattle.executive.specs.WellFormed.{InRange, Line, Queue, Stored, Timely, Times, Unmet, Waiters, Zeros, starts_of, ends_of, runs_of, dormant_target}
use Rattle.executive.specs.Check.{awaits_in_range, numbers_in_range, entry_in_range, request_in_range, sub_in_range, is_blank, sizes_right, in_bounds, numbers_right, is_task, is_nobody, falls, stands_in, exact_at, line_right, order_right, queue_right, is_stored, is_timely, alarm_right, task_timely, times_right, is_started, started_right, is_unmet, task_unmet, masks_right, target_busy, busy_right, waiters_at, names_others, waiters_right, is_zero, dormant_entry_right, dormant_right, is_free, pool_right}
use Rattle.executive.proofs.states.Laws.{dormant-named, dormant-kind}
use Rattle.executive.proofs.places.TaskAt.{at_none}
use Rattle.executive.proofs.Lists.Loops.{all-get, all_make, every_get, every_make}
use Rattle.executive.proofs.Lists.Tests.{and_true, true_and, one_none, none-one, not-of, of-not, leb-none, in_reach, sum-none, none-all}
use Rattle.executive.specs.Messages.{no_mail, letters, mail_at}
use Rattle.executive.specs.Check.{message_in_range}
use Rattle.executive.proofs.check.Messages.{astray_get, astray_make, senders-get, senders_make, emptied-get, emptied_make}
use Rattle.executive.proofs.check.Blanks.{blank-pad, pad-blank, nobody-is, free-is, zero_is, is-zero, tasks-get, tasks_make, past-get, past_make}
use Rattle.executive.proofs.check.Descent.{falls-tasks, falls_desc, desc_falls, low, all-tasks}

-- ---- every number is in range
module _ (n g : ℕ) (c : Millis) (q : ℕ) where
  pub record Bounds : Type 0 where
    pub count : (1 ≤ n) × (n ≤ most_tasks)
    pub granule : (1 ≤ g) × (g ≤ most_granule)
    pub clock : c.0 ≤ end_of_time
    pub queued : q ≤ most_queued

  pub bounds-get : in_bounds n g c q ≡ true → Bounds
  bounds-get e =
      let a1 = and_true (leb 1 n) _ e in
      let a2 = and_true (leb n most_tasks) _ a1.1 in
      let a3 = and_true (leb 1 g) _ a2.1 in
      let a4 = and_true (leb g most_granule) _ a3.1 in
      let a5 = and_true (leb c.0 end_of_time) _ a4.1 in
      record {
        count = (leb-true _ _ a1.0, leb-true _ _ a2.0);
        granule = (leb-true _ _ a3.0, leb-true _ _ a4.0);
        clock = leb-true _ _ a5.0;
        queued = leb-true _ _ a5.1;
      }

  pub bounds_make : Bounds → in_bounds n g c q ≡ true
  bounds_make b =
      rw (le-leb 1 n b.count.0, le-leb n most_tasks b.count.1, le-leb 1 g b.granule.0)
      (rw (le-leb g most_granule b.granule.1, le-leb c.0 end_of_time b.clock, le-leb q most_queued b.queued) refl)

module _ (n : ℕ) where
  blank_in_range : entry_in_range n no_task ≡ true
  blank_in_range = rw (le-leb 0 n (omega arith)) refl

  own_of : (e : Task) → entry_in_range n e ≡ true → e.own ≤ highest
  own_of e h = leb-true _ _ (and_true (leb e.own highest) _ (and_true (numbers_in_range n e) _ h).0).0

  tail_of : (e : Task) → entry_in_range n e ≡ true → (leb e.priority highest and awaits_in_range n e.state) ≡ true
  tail_of e h = (and_true (leb e.own highest) _ (and_true (numbers_in_range n e) _ h).0).1

  level-of : (e : Task) → entry_in_range n e ≡ true → e.priority ≤ highest
  level-of e h = leb-true _ _ (and_true (leb e.priority highest) _ (tail_of e h)).0

  waiter-of : (e : Task) → entry_in_range n e ≡ true → e.end_waiter.0 ≤ n
  waiter-of e h = leb-true _ _ (and_true (numbers_in_range n e) _ h).1

  awaited-of : (e : Task) → entry_in_range n e ≡ true → is_of await_sub e.state ≡ true → awaited_of e.state ≤ last_sub
  awaited-of e h s = leb-true _ _ (rw s at (and_true (leb e.priority highest) _ (tail_of e h)).1)

  sender-of : (e : Task) → entry_in_range n e ≡ true → is_of await_message e.state ≡ true → awaited_of e.state ≤ n
  sender-of e h s = go (is_of await_sub e.state) refl (rw s at (and_true (leb e.priority highest) _ (tail_of e h)).1)
    where
      go : (b : Bool) → is_of await_sub e.state ≡ b → cond b (leb (awaited_of e.state) last_sub) (leb (awaited_of e.state) n) ≡ true → awaited_of e.state ≤ n
      go true f z = absurd (omega (arith, eqb-true await_sub (state_kind e.state) f, eqb-true await_message (state_kind e.state) s))
      go false f z = leb-true _ _ z

  -- a subprogram: the size of its line, its holder, how many wait; those of a free one
  sub_of : (s : Sub) → sub_in_range n s ≡ true → (length s.line ≡ most_tasks) × (s.holder.0 ≤ n) × (s.waiting ≤ most_tasks)
  sub_of s h =
      let a = and_true (eqb (length s.line) most_tasks) _ h in
      let b = and_true (leb s.holder.0 n) _ a.1 in
      (eqb-true _ _ a.0, leb-true _ _ b.0, leb-true _ _ b.1)

  free_in_range : sub_in_range n no_subprogram ≡ true
  unfolding pad
  free_in_range = rw (le-leb 0 n (omega arith)) refl

  steep_none : (r : Request) → request_in_range n r ≡ true → one (ltb highest r.priority) ≡ 0
  steep_none r e = leb-none r.priority highest (and_true (leb r.priority highest) _ e).0

  names_of : (r : Request) → request_in_range n r ≡ true → (r.target.0 ≤ n) × (r.start_waiter.0 ≤ n) × (r.end_waiter.0 ≤ n)
  names_of r e =
      let a = and_true (leb r.priority highest) _ e in
      let b = and_true (leb r.target.0 n) _ a.1 in
      let d = and_true (leb r.start_waiter.0 n) _ b.1 in
      (leb-true _ _ b.0, leb-true _ _ d.0, leb-true _ _ d.1)

  wild_none : (r : Request) → request_in_range n r ≡ true
      → one (ltb n r.target.0) + one (ltb n r.start_waiter.0) + one (ltb n r.end_waiter.0) ≡ 0
  wild_none r e =
      let a = names_of r e in
      omega (arith, leb-none r.target.0 n (le-leb _ _ a.0), leb-none r.start_waiter.0 n (le-leb _ _ a.1), leb-none r.end_waiter.0 n (le-leb _ _ a.2))

  ranged : (r : Request) → one (ltb highest r.priority) ≡ 0
      → one (ltb n r.target.0) + one (ltb n r.start_waiter.0) + one (ltb n r.end_waiter.0) ≡ 0 → request_in_range n r ≡ true
  ranged r a b =
      true_and (leb r.priority highest) _ (in_reach r.priority highest a)
      (true_and (leb r.target.0 n) _ (in_reach r.target.0 n (omega arith))
      (true_and (leb r.start_waiter.0 n) _ (in_reach r.start_waiter.0 n (omega arith)) (in_reach r.end_waiter.0 n (omega arith))))

  -- names over n are named by nobody
  far : (k m : ℕ) → n < k → m ≤ n → one (eqb k m) ≡ 0
  far k m h l = ap one (ne_eqb k m (λ e. omega arith))

pub awaits_make : (n : ℕ) (s : State) → (is_of await_sub s ≡ true → awaited_of s ≤ last_sub) → (is_of await_message s ≡ true → awaited_of s ≤ n) → awaits_in_range n s ≡ true
awaits_make n s h g = go (is_of await_sub s) (is_of await_message s) h g
  where
    go : (b c : Bool) → (b ≡ true → awaited_of s ≤ last_sub) → (c ≡ true → awaited_of s ≤ n) → cond b (leb (awaited_of s) last_sub) (cond c (leb (awaited_of s) n) true) ≡ true
    go true c f g = le-leb _ _ (f refl)
    go false true f g = le-leb _ _ (g refl)
    go false false f g = refl

-- what is known of the numbers, as the later rules use it
pub record Known (t : Table) : Type 0 where
  pub range : InRange t
  pub entries : all_of (entry_in_range t.rest.count) t.tasks ≡ true
  pub asked : all_of (request_in_range t.rest.count) (requests t.rest) ≡ true

-- the queue's own numbers
pub record Lined (t : Table) : Type 0 where
  pub size : length t.queue ≡ 16
  pub ready : t.ready ≤ 16

pub lined : (t : Table) → queue_right t ≡ true → Lined t
unfolding queue_right
lined t e =
    let a = and_true (eqb (length t.queue) 16) _ (and_true (order_right t) _ e).0 in
    let b = and_true (leb t.rest.count 16) _ a.1 in
    record { size = eqb-true _ _ a.0; ready = leb-true _ _ (and_true (leb t.ready 16) _ b.1).0 }

module _ (t : Table) where
  pub numbers-get : Lined t → numbers_right t.tasks t.rest ≡ true → Known t
  unfolding numbers_right
  numbers-get q e =
      let n = t.rest.count in
      let s = and_true (sizes_right t.tasks t.rest) _ e in
      let s1 = and_true (eqb (length t.tasks) 16) _ s.0 in
      let s2 = and_true (eqb (length t.rest.alarms) 32) _ s1.1 in
      let b = and_true (in_bounds n t.rest.granule t.rest.clock t.rest.queued) _ s.1 in
      let m = and_true (all_of (entry_in_range n) t.tasks) _ b.1 in
      let p = and_true (all_of is_blank (drop n t.tasks)) _ m.1 in
      let q1 = and_true (all_of (request_in_range n) (requests t.rest)) _ p.1 in
      let s3 = and_true (eqb (length t.rest.pool) 32) _ s2.1 in
      let s4 = and_true (eqb (length t.rest.subs) 8) _ s3.1 in
      let s5 = and_true (eqb (length t.rest.messages) 32) _ s4.1 in
      let q2 = and_true (all_of (sub_in_range n) t.rest.subs) _ q1.1 in
      let q3 = and_true (leb t.rest.sent 32) _ q2.1 in
      let q4 = and_true (all_of (message_in_range n) (letters t.rest)) _ q3.1 in
      let w = bounds-get n t.rest.granule t.rest.clock t.rest.queued b.0 in
      let h : (k : ℕ) → entry_in_range n (task_at t.tasks k) ≡ true = tasks-get (entry_in_range n) t.tasks (blank_in_range n) m.0 in
      let g : (k : ℕ) → sub_in_range n (sub_at t.rest k) ≡ true = every_get (sub_in_range n) no_subprogram t.rest.subs (free_in_range n) q2.0 in
      record {
        range = record {
          sizes = record { tasks = eqb-true _ _ s1.0; queue = q.size; alarms = eqb-true _ _ s2.0; pool = eqb-true _ _ s3.0; subs = eqb-true _ _ s4.0; messages = eqb-true _ _ s5.0; mail = eqb-true _ _ s5.1; lines = λ k. (sub_of n (sub_at t.rest k) (g k)).0 };
          count = w.count;
          granule = w.granule;
          clock = w.clock;
          ready = q.ready;
          queued = w.queued;
          own = λ k. own_of n (task_at t.tasks k) (h k);
          priority = λ k. level-of n (task_at t.tasks k) (h k);
          waiter = λ k. waiter-of n (task_at t.tasks k) (h k);
          beyond = past-get t.tasks n p.0;
          priorities = sum-none (request_in_range n) (λ (r : Request). one (ltb highest r.priority)) (steep_none n) (requests t.rest) q1.0;
          names = sum-none (request_in_range n) (λ (r : Request). one (ltb n r.target.0) + one (ltb n r.start_waiter.0) + one (ltb n r.end_waiter.0)) (wild_none n) (requests t.rest) q1.0;
          holders = λ k. (sub_of n (sub_at t.rest k) (g k)).1;
          waiting = λ k. (sub_of n (sub_at t.rest k) (g k)).2;
          inside = λ k. awaited-of n (task_at t.tasks k) (h k);
          sent = leb-true _ _ q3.0;
          letters = astray_get n (letters t.rest) q4.0;
          mail = senders-get n t.rest.mail q4.1;
          senders = λ k. sender-of n (task_at t.tasks k) (h k);
        };
        entries = m.0;
        asked = q1.0;
      }

  pub numbers_make : InRange t → numbers_right t.tasks t.rest ≡ true
  unfolding numbers_right
  numbers_make w =
      let n = t.rest.count in
      true_and (sizes_right t.tasks t.rest) _
      (rw (eq-eqb (length t.tasks) 16 w.sizes.tasks, eq-eqb (length t.rest.alarms) 32 w.sizes.alarms, eq-eqb (length t.rest.pool) 32 w.sizes.pool, eq-eqb (length t.rest.subs) 8 w.sizes.subs, eq-eqb (length t.rest.messages) 32 w.sizes.messages, eq-eqb (length t.rest.mail) 16 w.sizes.mail) refl)
      (true_and (in_bounds n t.rest.granule t.rest.clock t.rest.queued) _
      (bounds_make n t.rest.granule t.rest.clock t.rest.queued (record { count = w.count; granule = w.granule; clock = w.clock; queued = w.queued }))
      (true_and (all_of (entry_in_range n) t.tasks) _
      (tasks_make (entry_in_range n) t.tasks (λ k.
      true_and (numbers_in_range n (task_at t.tasks k)) _
      (true_and (leb (task_at t.tasks k).own highest) _ (le-leb _ _ (w.own k))
      (true_and (leb (task_at t.tasks k).priority highest) _ (le-leb _ _ (w.priority k)) (awaits_make n (task_at t.tasks k).state (w.inside k) (w.senders k))))
      (le-leb _ _ (w.waiter k))))
      (true_and (all_of is_blank (drop n t.tasks)) _ (past_make t.tasks n w.beyond)
      (true_and (all_of (request_in_range n) (requests t.rest)) _
      (none-all (request_in_range n) (λ (r : Request). one (ltb highest r.priority)) (λ (r : Request). one (ltb n r.target.0) + one (ltb n r.start_waiter.0) + one (ltb n r.end_waiter.0)) (ranged n) (requests t.rest) w.priorities w.names)
      (true_and (all_of (sub_in_range n) t.rest.subs) _
      (every_make (sub_in_range n) no_subprogram t.rest.subs (λ k.
      true_and (eqb (length (sub_at t.rest k).line) 16) _ (eq-eqb _ _ (w.sizes.lines k))
      (true_and (leb (sub_at t.rest k).holder.0 n) _ (le-leb _ _ (w.holders k)) (le-leb _ _ (w.waiting k)))))
      (true_and (leb t.rest.sent 32) _ (le-leb _ _ w.sent)
      (true_and (all_of (message_in_range n) (letters t.rest)) _ (astray_make n (letters t.rest) w.letters) (senders_make n t.rest.mail w.mail))))))))

-- ---- the ready queue
module _ (ts : List Task) where
  stands-count : (k : ℕ) (xs : List TaskNo) → stands_in k xs ≡ count k (items ts xs)
  unfolding sum_of count items
  stands-count k [] = refl
  stands-count k (x ∷ xs) = ap (λ (m : ℕ). one (eqb k x.0) + m) (stands-count k xs)

  -- a number that is no task's stands nowhere
  out_of : (n k : ℕ) (x : TaskNo) → (0 < k → n < k) → is_task n x ≡ true → one (eqb k x.0) ≡ 0
  out_of n k x h e =
      let a = and_true (ltb 0 x.0) _ e in
      let l : 0 < x.0 = ltb-true _ _ a.0 in
      let m : x.0 ≤ n = leb-true _ _ a.1 in
      ap one (ne_eqb k x.0 (λ q. omega (arith, h (omega arith))))

-- where a number stands: it is 0, a task's, or past the n tasks
data Place (n k : ℕ) : Type 0 where
  nought : k ≡ 0 → Place n k
  among : 0 < k → k ≤ n → Place n k
  past : n < k → Place n k

place : (n k : ℕ) → Place n k
place n zero = nought refl
place n (suc i) = go (leb (suc i) n) refl
  where
    go : (b : Bool) → leb (suc i) n ≡ b → Place n (suc i)
    go true e = among (omega arith) (leb-true _ _ e)
    go false e = past (leb-false _ _ e)

-- the line q, of which the first r places are taken, of those whose state passes a test, which no dormant one does
module _ (f : State → Bool) (z : f Dormant ≡ false) (t : Table) (w : InRange t) (r : ℕ) (q : List TaskNo) (l : length q ≡ 16) where
  abbrev ts : List Task
  ts = t.tasks

  abbrev n : ℕ
  n = t.rest.count

  -- nobody's number, and one past the tasks, stands in no line
  none-at : (k : ℕ) → task_at ts k ≡ no_task → one (f (task_at ts k).state) ≡ 0
  none-at k e = rw (e, z) refl

  -- the number of one whose state passes is a task's
  line-no : (x : TaskNo) → 0 < one (f (task_at ts x.0).state) → is_task n x ≡ true
  line-no x h = go (place n x.0)
    where
      go : Place n x.0 → is_task n x ≡ true
      go (nought e) = absurd (omega (arith, none-at x.0 (at_none ts x.0 e)))
      go (among a b) = true_and (ltb 0 x.0) _ (lt-ltb 0 x.0 a) (le-leb _ _ b)
      go (past g) = absurd (omega (arith, none-at x.0 (w.beyond x.0 g)))

  pub line_make : r ≤ 16 → Line f ts (take r q) → q ≡ pad 16 nobody (take r q) → line_right f ts n r q ≡ true
  unfolding exact_at
  line_make h e p =
      true_and (leb n 16) _ (le-leb _ _ w.count.1)
      (true_and (leb r 16) _ (le-leb _ _ h)
      (true_and (falls ts n 15 (take r q)) _
      (desc_falls ts n 15 (take r q)
      (all-tasks ts n (take r q) (λ x g. line-no x (rw (e.exact x.0) at g)))
      (low ts n 15 (take r q) w.priority)
      e.sorted)
      (true_and (up_to (exact_at f ts (take r q)) n) _
      (all_make (exact_at f ts (take r q)) n (λ k g x. eq-eqb _ _ (stands-count ts k (take r q) ∙ e.exact k)))
      (pad-blank is_nobody nobody refl 16 r q l p))))

  exact-get : all_of (is_task n) (take r q) ≡ true → up_to (exact_at f ts (take r q)) n ≡ true
      → (k : ℕ) → count k (items ts (take r q)) ≡ one (f (task_at ts k).state)
  unfolding exact_at
  exact-get a u k = sym (stands-count ts k (take r q)) ∙ go (place n k)
    where
      none : (0 < k → n < k) → stands_in k (take r q) ≡ 0
      none h = sum-none (is_task n) (λ (x : TaskNo). one (eqb k x.0)) (λ x. out_of ts n k x h) (take r q) a

      go : Place n k → stands_in k (take r q) ≡ one (f (task_at ts k).state)
      go (nought e) = none (λ y. absurd (omega arith)) ∙ sym (none-at k (at_none ts k e))
      go (among g h) = eqb-true _ _ (all-get (exact_at f ts (take r q)) n k u g h)
      go (past h) = none (λ y. h) ∙ sym (none-at k (w.beyond k h))

  pub line-get : line_right f ts n r q ≡ true → Line f ts (take r q) × (q ≡ pad 16 nobody (take r q))
  line-get e =
      let y = and_true (leb n 16) _ e in
      let x = and_true (leb r 16) _ y.1 in
      let a = and_true (falls ts n 15 (take r q)) _ x.1 in
      let b = and_true (up_to (exact_at f ts (take r q)) n) _ a.1 in
      (record { exact = exact-get (falls-tasks ts n 15 (take r q) a.0) b.0; sorted = (falls_desc ts n 15 (take r q) a.0).1 }, blank-pad is_nobody nobody nobody-is 16 r q l b.1)

module _ (t : Table) (w : InRange t) where
  pub queue_make : Queue t → order_right t ≡ true
  queue_make q =
      true_and (eqb (length t.queue) 16) _ (eq-eqb _ _ w.sizes.queue)
      (line_make is_ready refl t w t.ready t.queue w.sizes.queue w.ready q.exactly q.tidy)

  pub queue-get : order_right t ≡ true → Queue t
  queue-get e =
      let a = line-get is_ready refl t w t.ready t.queue w.sizes.queue (and_true (eqb (length t.queue) 16) _ e).1 in
      record { exactly = a.0; tidy = a.1 }

-- ---- stored times
stored-get : (c at : ℕ) → is_stored c at ≡ true → Stored c at
stored-get c at e =
    let a = and_true (ltb c at) _ e in
    let l : c < at = ltb-true _ _ a.0 in
    let m : at - c ≤ longest = leb-true _ _ a.1 in
    (l, omega arith)

stored_make : (c at : ℕ) → Stored c at → is_stored c at ≡ true
stored_make c at s = true_and (ltb c at) _ (lt-ltb _ _ s.0) (le-leb (at - c) longest (omega arith))

pub timely_get : (c : ℕ) (s : State) → is_timely c s ≡ true → Timely c s
timely_get c s e h = stored-get c (time_of s).0 (rw h at e)

pub timely_make : (c : ℕ) (s : State) → Timely c s → is_timely c s ≡ true
timely_make c s h = go (has_time s) h
  where
    go : (b : Bool) → (b ≡ true → Stored c (time_of s).0) → cond b (is_stored c (time_of s).0) true ≡ true
    go true g = stored_make c (time_of s).0 (g refl)
    go false g = refl

pub alarm-get : (c : ℕ) (a : Millis) → alarm_right c a ≡ true → 0 < a.0 → Stored c a.0
alarm-get c a e h = stored-get c a.0 (rw (ne_eqb a.0 0 (λ z. omega arith)) at e)

pub alarm_make : (c : ℕ) (a : Millis) → (0 < a.0 → Stored c a.0) → alarm_right c a ≡ true
alarm_make c a h = go (eqb a.0 0) refl
  where
    go : (b : Bool) → eqb a.0 0 ≡ b → cond b true (is_stored c a.0) ≡ true
    go true e = refl
    go false e = stored_make c a.0 (h (omega (arith, eqb-false a.0 0 e)))

module _ (t : Table) where
  pub times-get : times_right t.tasks t.rest ≡ true → Times t
  unfolding times_right
  times-get e =
      let c = t.rest.clock.0 in
      let a = and_true (all_of (task_timely c) t.tasks) _ e in
      record {
        tasks = λ k. timely_get c (task_at t.tasks k).state (tasks-get (task_timely c) t.tasks refl a.0 k);
        alarms = λ i. alarm-get c (get_or t.rest.alarms i never) (every_get (alarm_right c) never t.rest.alarms refl a.1 i);
      }

  pub times_make : Times t → times_right t.tasks t.rest ≡ true
  unfolding times_right
  times_make w =
      let c = t.rest.clock.0 in
      true_and (all_of (task_timely c) t.tasks) _
      (tasks_make (task_timely c) t.tasks (λ k. timely_make c (task_at t.tasks k).state (w.tasks k)))
      (every_make (alarm_right c) never t.rest.alarms (λ i. alarm_make c (get_or t.rest.alarms i never) (w.alarms i)))

  -- ---- last scheduled starts
  pub started-get : started_right t.tasks t.rest ≡ true → (k : ℕ) → (task_at t.tasks k).start.0 ≤ t.rest.clock.0
  unfolding started_right
  started-get e k = leb-true _ _ (tasks-get (is_started t.rest.clock.0) t.tasks (le-leb 0 t.rest.clock.0 (omega arith)) e k)

  pub started_make : ((k : ℕ) → (task_at t.tasks k).start.0 ≤ t.rest.clock.0) → started_right t.tasks t.rest ≡ true
  unfolding started_right
  started_make w = tasks_make (is_started t.rest.clock.0) t.tasks (λ k. le-leb _ _ (w k))

-- ---- wait masks
pub unmet-get : (fs : ℕ) (s : State) → is_unmet fs s ≡ true → Unmet fs s
unmet-get fs s e h =
    let a = and_true (ltb 0 (mask_of s)) (not (met fs (wait_mode s) (mask_of s))) (rw h at e) in
    (ltb-true _ _ a.0, not-of (met fs (wait_mode s) (mask_of s)) a.1)

pub unmet_make : (fs : ℕ) (s : State) → Unmet fs s → is_unmet fs s ≡ true
unmet_make fs s h = go (has_mask s) h
  where
    go : (b : Bool) → (b ≡ true → (0 < mask_of s) × (met fs (wait_mode s) (mask_of s) ≡ false)) → cond b (ltb 0 (mask_of s) and not (met fs (wait_mode s) (mask_of s))) true ≡ true
    go true g = let u = g refl in true_and (ltb 0 (mask_of s)) _ (lt-ltb 0 (mask_of s) u.0) (of-not (met fs (wait_mode s) (mask_of s)) u.1)
    go false g = refl

module _ (t : Table) where
  pub masks-get : masks_right t.tasks t.rest ≡ true → (k : ℕ) → Unmet t.rest.flags (task_at t.tasks k).state
  unfolding masks_right
  masks-get e k = unmet-get t.rest.flags (task_at t.tasks k).state (tasks-get (task_unmet t.rest.flags) t.tasks refl e k)

  pub masks_make : ((k : ℕ) → Unmet t.rest.flags (task_at t.tasks k).state) → masks_right t.tasks t.rest ≡ true
  unfolding masks_right
  masks_make w = tasks_make (task_unmet t.rest.flags) t.tasks (λ k. unmet_make t.rest.flags (task_at t.tasks k).state (w k))

  -- ---- queued requests name busy tasks only
  idle : Request → ℕ
  idle r = is dormant (task_at t.tasks r.target.0).state

  pub busy-get : busy_right t.tasks t.rest ≡ true → dormant_target t.tasks (requests t.rest) ≡ 0
  unfolding busy_right idle
  busy-get e = sum-none (target_busy t.tasks) idle (λ r. none-one (is_dormant (task_at t.tasks r.target.0).state)) (requests t.rest) e

  pub busy_make : dormant_target t.tasks (requests t.rest) ≡ 0 → busy_right t.tasks t.rest ≡ true
  unfolding busy_right idle
  busy_make w = none-all (target_busy t.tasks) idle idle (λ r a b. one_none (is_dormant (task_at t.tasks r.target.0).state) a) (requests t.rest) w w

-- ---- waiters
twice-none : (a b : Bool) → cond a true b ≡ true → cond a 0 (one (not b)) ≡ 0
twice-none true b e = refl
twice-none false true e = refl
twice-none false false e = absurd (let z : ◌≡◌ {A = ℕ} 0 1 = cc in omega arith)

none-twice : (a b : Bool) → cond a 0 (one (not b)) ≡ 0 → cond a true b ≡ true
none-twice true b e = refl
none-twice false true e = refl
none-twice false false e = absurd (omega arith)

selfs : Request → ℕ
selfs r = one (eqb r.target.0 r.start_waiter.0) + one (eqb r.target.0 r.end_waiter.0)

twice : Request → ℕ
twice r = cond (eqb r.start_waiter.0 0) 0 (one (not (eqb r.end_waiter.0 0)))

others-none : (r : Request) → names_others r ≡ true → (selfs r ≡ 0) × (twice r ≡ 0)
unfolding selfs twice
others-none r e =
    let a = and_true (not (eqb r.target.0 r.start_waiter.0)) _ e in
    let b = and_true (not (eqb r.target.0 r.end_waiter.0)) _ a.1 in
    (omega (arith, none-one (eqb r.target.0 r.start_waiter.0) a.0, none-one (eqb r.target.0 r.end_waiter.0) b.0), twice-none (eqb r.start_waiter.0 0) (eqb r.end_waiter.0 0) b.1)

none-others : (r : Request) → selfs r ≡ 0 → twice r ≡ 0 → names_others r ≡ true
unfolding selfs twice
none-others r a b =
    true_and (not (eqb r.target.0 r.start_waiter.0)) _ (one_none (eqb r.target.0 r.start_waiter.0) (omega arith))
    (true_and (not (eqb r.target.0 r.end_waiter.0)) _ (one_none (eqb r.target.0 r.end_waiter.0) (omega arith))
    (none-twice (eqb r.start_waiter.0 0) (eqb r.end_waiter.0 0) b))

module _ (t : Table) where
  pub waiters_make : Waiters t.tasks (requests t.rest) → waiters_right t.tasks t.rest ≡ true
  unfolding waiters_right waiters_at selfs twice
  waiters_make w =
      let ts = t.tasks in
      let ps = requests t.rest in
      true_and (up_to (waiters_at ts ps) t.rest.count) _
      (all_make (waiters_at ts ps) t.rest.count (λ k g h.
      true_and (eqb (starts_of k ps) (is await_start (task_at ts k).state)) _ (eq-eqb _ _ (w.starts k g))
      (true_and (eqb (ends_of k ps + runs_of k ts) (is await_end (task_at ts k).state)) _ (eq-eqb _ _ (w.ends k g)) (of-not _ (w.apart k g)))))
      (none-all names_others selfs twice none-others ps w.others w.single)

  module _ (w : Known t) where
    -- what the test at number k says; a number past the count is named by nobody, and its entry is blank
    Told : ℕ → Type 0
    Told k =
        (starts_of k (requests t.rest) ≡ is await_start (task_at t.tasks k).state)
        × (ends_of k (requests t.rest) + runs_of k t.tasks ≡ is await_end (task_at t.tasks k).state)
        × (eqb k (task_at t.tasks k).end_waiter.0 ≡ false)

    told_at : (k : ℕ) → waiters_at t.tasks (requests t.rest) k ≡ true → Told k
    unfolding waiters_at Told
    told_at k e =
        let ts = t.tasks in
        let ps = requests t.rest in
        let a = and_true (eqb (starts_of k ps) (is await_start (task_at ts k).state)) _ e in
        let b = and_true (eqb (ends_of k ps + runs_of k ts) (is await_end (task_at ts k).state)) _ a.1 in
        (eqb-true _ _ a.0, eqb-true _ _ b.0, not-of _ b.1)

    told-past : (k : ℕ) → t.rest.count < k → Told k
    unfolding Told
    told-past k h =
        let n = t.rest.count in
        let ps = requests t.rest in
        let s : starts_of k ps ≡ 0 = sum-none (request_in_range n) (λ (r : Request). one (eqb k r.start_waiter.0)) (λ r e. far n k r.start_waiter.0 h (names_of n r e).1) ps w.asked in
        let d : ends_of k ps ≡ 0 = sum-none (request_in_range n) (λ (r : Request). one (eqb k r.end_waiter.0)) (λ r e. far n k r.end_waiter.0 h (names_of n r e).2) ps w.asked in
        let r : runs_of k t.tasks ≡ 0 = sum-none (entry_in_range n) (λ (e : Task). one (eqb k e.end_waiter.0)) (λ e x. far n k e.end_waiter.0 h (waiter-of n e x)) t.tasks w.entries in
        rw (w.range.beyond k h) (s, omega arith, ne_eqb k 0 (λ z. omega arith))

    told : up_to (waiters_at t.tasks (requests t.rest)) t.rest.count ≡ true → (k : ℕ) → 0 < k → Told k
    told u k h = go (leb k t.rest.count) refl
      where
        go : (b : Bool) → leb k t.rest.count ≡ b → Told k
        go true e = told_at k (all-get (waiters_at t.tasks (requests t.rest)) t.rest.count k u h (leb-true _ _ e))
        go false e = told-past k (leb-false _ _ e)

    pub waiters-get : waiters_right t.tasks t.rest ≡ true → Waiters t.tasks (requests t.rest)
    unfolding waiters_right selfs twice Told
    waiters-get e =
        let a = and_true (up_to (waiters_at t.tasks (requests t.rest)) t.rest.count) _ e in
        record {
          starts = λ k h. (told a.0 k h).0;
          ends = λ k h. (told a.0 k h).1;
          others = sum-none names_others selfs (λ r x. (others-none r x).0) (requests t.rest) a.1;
          apart = λ k h. (told a.0 k h).2;
          single = sum-none names_others twice (λ r x. (others-none r x).1) (requests t.rest) a.1;
        }

-- ---- a dormant task's entry
sleeps-get : (e : Task) → dormant_entry_right e ≡ true → is dormant e.state ≡ 1 → Zeros e
sleeps-get e h s = go (is_dormant e.state) h s
  where
    go : (b : Bool) → cond b (is_zero e) true ≡ true → one b ≡ 1 → Zeros e
    go true f z = zero_is e f
    go false f z = absurd (omega arith)

sleeps_make : (e : Task) → (is dormant e.state ≡ 1 → Zeros e) → dormant_entry_right e ≡ true
sleeps_make e h = go (is_dormant e.state) h
  where
    go : (b : Bool) → (one b ≡ 1 → Zeros e) → cond b (is_zero e) true ≡ true
    go true f = is-zero e (f refl)
    go false f = refl

module _ (t : Table) where
  pub dormant-get : dormant_right t.tasks t.rest ≡ true → (k : ℕ) → (task_at t.tasks k).state ≡ Dormant → Zeros (task_at t.tasks k)
  unfolding dormant_right
  dormant-get e k z = sleeps-get (task_at t.tasks k) (tasks-get dormant_entry_right t.tasks refl (and_true (all_of dormant_entry_right t.tasks) _ e).0 k) (dormant-kind _ z)

  -- and its mail
  pub dormant-mail : length t.rest.mail ≡ 16 → dormant_right t.tasks t.rest ≡ true
      → (k : ℕ) → (task_at t.tasks k).state ≡ Dormant → mail_at t.rest.mail k ≡ no_mail
  unfolding dormant_right
  dormant-mail l e = emptied-get t.tasks t.rest.mail l (and_true (all_of dormant_entry_right t.tasks) _ e).1

  pub dormant_make : ((k : ℕ) → (task_at t.tasks k).state ≡ Dormant → Zeros (task_at t.tasks k))
      → ((k : ℕ) → (task_at t.tasks k).state ≡ Dormant → mail_at t.rest.mail k ≡ no_mail) → dormant_right t.tasks t.rest ≡ true
  unfolding dormant_right
  dormant_make w m =
      true_and (all_of dormant_entry_right t.tasks) _
      (tasks_make dormant_entry_right t.tasks (λ k. sleeps_make (task_at t.tasks k) (λ z. w k (dormant-named _ z)))) (emptied_make t.tasks t.rest.mail m)

  -- ---- the pool's free places
  module _ (l : length t.rest.pool ≡ 32) where
    pub pool-get : pool_right t.rest ≡ true → t.rest.pool ≡ pad 32 no_request (requests t.rest)
    unfolding pool_right
    pool-get e = blank-pad is_free no_request free-is 32 t.rest.queued t.rest.pool l e

    pub pool_make : t.rest.pool ≡ pad 32 no_request (requests t.rest) → pool_right t.rest ≡ true
    unfolding pool_right
    pool_make e = pad-blank is_free no_request refl 32 t.rest.queued t.rest.pool l e
