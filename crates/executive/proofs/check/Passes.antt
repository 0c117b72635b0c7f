-- The check in fewer passes is the check in the order of the rules; where nobody waits and nobody is named there is
-- nothing to count.
use Prim.Native.Nat.{ℕ, zero, suc, ◌+◌, ◌-◌, ◌≤◌, ◌<◌}
use mathlib.Core.Path.{◌≡◌, refl, ap, sym, ◌∙◌}
use mathlib.Core.Bool.{Bool, true, false, not}
use mathlib.Core.List.{List, [], ◌∷◌}
use native.Mathlib.Omega.{arith}
use native.Mathlib.Numerals.{add-one}
use borrow.Author.Tests.{eqb-true, eq-eqb, ne_eqb}
use lib.Dec.{eqb, leb}
use lib.ListN.{length, drop, get_or}
use Rattle.records.specs.declared.TaskNo.{TaskNo}
use Rattle.executive.specs.declared.Task.{Task}
use Rattle.executive.specs.declared.Request.{Request}
use Rattle.executive.specs.declared.Rest.{Rest}
use Rattle.executive.specs.declared.State.{State}
use Rattle.executive.specs.Lists.{one, ◌and◌, up_to, all_of}
use Rattle.executive.specs.Places.{no_task, task_at}
use Rattle.executive.specs.Pool.{requests}
use Rattle.executive.specs.States.{ready, await_start, await_end, is_of, is, is_as, is_ready}
use Rattle.executive.specs.WellFormed.{starts_of, ends_of, runs_of}
use Rattle.executive.specs.Check.{entry_in_range, request_in_range, sub_in_range, is_blank, sizes_right, in_bounds, numbers_right, stands_in, exact_at, alarm_right, task_timely, times_right, is_started, started_right, task_unmet, masks_right, target_busy, busy_right, waiters_at, names_others, waiters_right, dormant_entry_right, dormant_right, pool_right, subs_right, all_but_queue, entry_right, request_fits, request_right, is_quiet, is_lone, asked_right, in_passes, Tallies}
use Rattle.executive.specs.declared.Message.{Message}
use Rattle.executive.specs.Numbers.{most_tasks, most_sent, highest}
use Rattle.executive.specs.Messages.{letters}
use Rattle.executive.specs.Check.{held_right, message_in_range, is_untaken, letters_fall, messages_right, letters_right, sent_right}
use Rattle.executive.proofs.check.Messages.{in_one-pass, mail_split, mail-join}
use Rattle.executive.proofs.places.TaskAt.{at_place, at-no-place, place-low}
use Rattle.executive.proofs.states.Laws.{ready_as}
use Rattle.executive.proofs.Lists.Loops.{both, all_make, tally-none, tally-next}
use Rattle.executive.proofs.Lists.Tests.{and_true, true_and, none-one, of-not, sum-none}
use Rattle.executive.proofs.check.Blanks.{tasks-get}

-- two tests are one if each passes where the other does
pub same : (a b : Bool) → (a ≡ true → b ≡ true) → (b ≡ true → a ≡ true) → a ≡ b
same true b f g = sym (f refl)
same false true f g = g refl
same false false f g = refl

-- a test of two parts passes everywhere where both parts do
module _ {A : Type 0} (f g : A → Bool) where
  pub all_split : (xs : List A) → all_of (λ (x : A). f x and g x) xs ≡ true → (all_of f xs ≡ true) × (all_of g xs ≡ true)
  unfolding all_of
  all_split [] e = (refl, refl)
  all_split (x ∷ xs) e =
      let p = both (f x and g x) (all_of (λ (x : A). f x and g x) xs) e in
      let q = and_true (f x) (g x) p.0 in
      let r = all_split xs p.1 in
      (rw q.0 r.0, rw q.1 r.1)

  pub all_join : (xs : List A) → all_of f xs ≡ true → all_of g xs ≡ true → all_of (λ (x : A). f x and g x) xs ≡ true
  unfolding all_of
  all_join [] a b = refl
  all_join (x ∷ xs) a b =
      let p = both (f x) (all_of f xs) a in
      let q = both (g x) (all_of g xs) b in
      rw (p.0, q.0) (all_join xs p.1 q.1)

-- ---- one place read where it lies
-- the entry of task k + 1 is at place k; whether it stands in the queue as its state says
pub at_next : (ts : List Task) (k : ℕ) → task_at ts (k + 1) ≡ get_or ts k no_task
unfolding task_at
at_next ts k = rw add-one refl

-- that a task stands in a line as often as its state says, by a tally of the line
unfoldable pub tallied_at : (State → Bool) → List ℕ → List Task → ℕ → Bool
tallied_at f c ts k = eqb (get_or c (k - 1) 0) (one (f (task_at ts k).state))

pub tallied_next : (f : State → Bool) (c : List ℕ) (ts : List Task) (k : ℕ) → eqb (get_or c k 0) (one (f (get_or ts k no_task).state)) ≡ tallied_at f c ts (k + 1)
unfolding tallied_at
tallied_next f c ts k = let z : k + 1 - 1 ≡ k = omega arith in rw (z, at_next ts k) refl

same_up : (f g : ℕ → Bool) (n : ℕ) → ((k : ℕ) → 0 < k → k ≤ n → f k ≡ g k) → up_to f n ≡ up_to g n
unfolding up_to
same_up f g zero h = refl
same_up f g (suc n) h = rw (same_up f g n (λ k a b. h k a (omega arith)), h (suc n) (omega arith) (omega arith)) refl

pub tallied_exact : (f : State → Bool) (c : List ℕ) (ts : List Task) (xs : List TaskNo) (n : ℕ) → n ≤ 16 → Tallies c xs → up_to (tallied_at f c ts) n ≡ up_to (exact_at f ts xs) n
unfolding tallied_at exact_at
tallied_exact f c ts xs n l t = same_up (tallied_at f c ts) (exact_at f ts xs) n at
  where
    at : (k : ℕ) → 0 < k → k ≤ n → tallied_at f c ts k ≡ exact_at f ts xs k
    at k a b =
        let z : suc (k - 1) ≡ k = omega arith in
        ap (λ (m : ℕ). eqb m (one (f (task_at ts k).state))) (t.counts (k - 1) (omega arith) ∙ ap (λ (m : ℕ). stands_in m xs) z)

-- the ready queue's line, by its kind of state and its number
pub ready-exact : (ts : List Task) (xs : List TaskNo) (n : ℕ) → up_to (exact_at (is_as ready 0) ts xs) n ≡ up_to (exact_at is_ready ts xs) n
unfolding exact_at
ready-exact ts xs n = same_up (exact_at (is_as ready 0) ts xs) (exact_at is_ready ts xs) n (λ k a b. ap (λ (x : Bool). eqb (stands_in k xs) (one x)) (ready_as (task_at ts k).state))

-- for the tally of a line, which the code makes
pub ruleset tallies = (tally-none, tally-next, place-low)

-- the rules on a request
module _ (ts : List Task) (n : ℕ) (r : Request) where
  pub fits_not : request_fits n r ≡ false → request_right ts n r ≡ false
  fits_not e = go (request_in_range n r) (names_others r) e
    where
      go : (a b : Bool) → (a and b) ≡ false → (a and b and target_busy ts r) ≡ false
      go false b f = refl
      go true b f = rw f refl

-- ---- where nobody waits and nobody is named there is nothing to count
module _ (ts : List Task) (p : List Request) (q : all_of is_quiet ts ≡ true) (l : all_of is_lone p ≡ true) where
  none_named : (k m : ℕ) → 0 < k → eqb m 0 ≡ true → one (eqb k m) ≡ 0
  none_named k m h e = ap one (ne_eqb k m (λ z. omega (arith, eqb-true m 0 e)))

  quiet_at : (k : ℕ) → 0 < k → waiters_at ts p k ≡ true
  unfolding waiters_at
  quiet_at k h =
      let a = tasks-get is_quiet ts refl q k in
      let b = and_true (not (is_of await_start (task_at ts k).state)) _ a in
      let d = and_true (not (is_of await_end (task_at ts k).state)) _ b.1 in
      let x : is await_start (task_at ts k).state ≡ 0 = none-one (is_of await_start (task_at ts k).state) b.0 in
      let y : is await_end (task_at ts k).state ≡ 0 = none-one (is_of await_end (task_at ts k).state) d.0 in
      let s : starts_of k p ≡ 0 = sum-none is_lone (λ (r : Request). one (eqb k r.start_waiter.0)) (λ r e. none_named k r.start_waiter.0 h (and_true (eqb r.start_waiter.0 0) _ e).0) p l in
      let f : ends_of k p ≡ 0 = sum-none is_lone (λ (r : Request). one (eqb k r.end_waiter.0)) (λ r e. none_named k r.end_waiter.0 h (and_true (eqb r.start_waiter.0 0) _ e).1) p l in
      let g : runs_of k ts ≡ 0 = sum-none is_quiet (λ (e : Task). one (eqb k e.end_waiter.0)) (λ e z. none_named k e.end_waiter.0 h (and_true (not (is_of await_end e.state)) _ (and_true (not (is_of await_start e.state)) _ z).1).1) ts q in
      true_and (eqb (starts_of k p) (is await_start (task_at ts k).state)) _ (eq-eqb _ _ (s ∙ sym x))
      (true_and (eqb (ends_of k p + runs_of k ts) (is await_end (task_at ts k).state)) _ (eq-eqb (ends_of k p + runs_of k ts) (is await_end (task_at ts k).state) (omega arith))
      (of-not (eqb k (task_at ts k).end_waiter.0) (ne_eqb k (task_at ts k).end_waiter.0 (λ z. omega (arith, eqb-true (task_at ts k).end_waiter.0 0 d.1)))))

  pub quiet-right : (n : ℕ) → up_to (waiters_at ts p) n ≡ true
  quiet-right n = all_make (waiters_at ts p) n (λ k g h. quiet_at k g)

-- ---- the whole
module _ (ts : List Task) (r : Rest) where
  abbrev n : ℕ
  n = r.count

  abbrev c : ℕ
  c = r.clock.0

  abbrev fs : ℕ
  fs = r.flags

  abbrev ps : List Request
  ps = requests r

  abbrev ms : List Message
  ms = letters r

  mail-size : sizes_right ts r ≡ true → length r.mail ≡ most_tasks
  mail-size z =
      let a = and_true (eqb (length ts) most_tasks) _ z in
      let b = and_true (eqb (length r.alarms) 32) _ a.1 in
      let d = and_true (eqb (length r.pool) 32) _ b.1 in
      let e = and_true (eqb (length r.subs) 8) _ d.1 in
      eqb-true _ _ (and_true (eqb (length r.messages) 32) _ e.1).1

  there : sizes_right ts r ≡ true → in_passes ts r ≡ true → all_but_queue ts r ≡ true
  unfolding in_passes all_but_queue numbers_right times_right started_right masks_right busy_right waiters_right dormant_right pool_right subs_right messages_right
  there z e =
      let b = and_true (in_bounds n r.granule r.clock r.queued) _ e in
      let a = and_true (all_of (entry_right n c fs) ts) _ b.1 in
      let d = and_true (all_of is_blank (drop n ts)) _ a.1 in
      let f = and_true (all_of (alarm_right c) r.alarms) _ d.1 in
      let u = and_true (asked_right ts n r.queued r.pool) _ f.1 in
      let v0 = and_true (held_right ts n r.subs) _ u.1 in
      let v = and_true (all_of (sub_in_range n) r.subs) _ v0.0 in
      let x = and_true (sent_right ts n r.sent r.messages) _ v0.1 in
      let x1 = and_true (leb r.sent most_sent) _ x.0 in
      let x2 = and_true (letters_right ts n highest ms) _ x1.1 in
      let y = and_true (all_of (message_in_range n) ms) _ (sym (in_one-pass ts n highest ms) ∙ x2.0) in
      let y1 = and_true (all_of (is_untaken ts) ms) _ y.1 in
      let ml = mail_split ts n r.mail (mail-size z) x.1 in
      let q = and_true (all_of (request_right ts n) ps) _ u.0 in
      let w = and_true (up_to (waiters_at ts ps) n) _ q.1 in
      let e1 = all_split (entry_in_range n) _ ts a.0 in
      let e2 = all_split (task_timely c) _ ts e1.1 in
      let e3 = all_split (is_started c) _ ts e2.1 in
      let e4 = all_split (task_unmet fs) dormant_entry_right ts e3.1 in
      let q1 = all_split (request_in_range n) _ ps q.0 in
      let q2 = all_split names_others (target_busy ts) ps q1.1 in
      true_and (numbers_right ts r) _
      (true_and (sizes_right ts r) _ z (true_and (in_bounds n r.granule r.clock r.queued) _ b.0 (true_and (all_of (entry_in_range n) ts) _ e1.0 (true_and (all_of is_blank (drop n ts)) _ d.0 (true_and (all_of (request_in_range n) ps) _ q1.0 (true_and (all_of (sub_in_range n) r.subs) _ v.0 (true_and (leb r.sent most_sent) _ x1.0 (true_and (all_of (message_in_range n) ms) _ y.0 ml.0))))))))
      (true_and (times_right ts r) _ (true_and (all_of (task_timely c) ts) _ e2.0 f.0)
      (true_and (started_right ts r) _ e3.0
      (true_and (masks_right ts r) _ e4.0
      (true_and (busy_right ts r) _ q2.1
      (true_and (waiters_right ts r) _ (true_and (up_to (waiters_at ts ps) n) _ w.0 q2.0)
      (true_and (dormant_right ts r) _ (true_and (all_of dormant_entry_right ts) _ e4.1 ml.1)
      (true_and (pool_right r) _ w.1
      (true_and (subs_right ts r) _ v.1 (true_and (all_of (is_untaken ts) ms) _ y1.0 (true_and (letters_fall highest ms) _ y1.1 x2.1))))))))))

  back : all_but_queue ts r ≡ true → in_passes ts r ≡ true
  unfolding in_passes all_but_queue numbers_right times_right started_right masks_right busy_right waiters_right dormant_right pool_right subs_right messages_right
  back e =
      let a = and_true (numbers_right ts r) _ e in
      let d = and_true (times_right ts r) _ a.1 in
      let f = and_true (started_right ts r) _ d.1 in
      let g = and_true (masks_right ts r) _ f.1 in
      let h = and_true (busy_right ts r) _ g.1 in
      let j = and_true (waiters_right ts r) _ h.1 in
      let k = and_true (dormant_right ts r) _ j.1 in
      let k1 = and_true (all_of dormant_entry_right ts) _ k.0 in
      let l = and_true (pool_right r) _ k.1 in
      let l1 = and_true (subs_right ts r) _ l.1 in
      let m1 = and_true (all_of (is_untaken ts) ms) _ l1.1 in
      let m2 = and_true (letters_fall highest ms) _ m1.1 in
      let n1 = and_true (sizes_right ts r) _ a.0 in
      let n2 = and_true (in_bounds n r.granule r.clock r.queued) _ n1.1 in
      let n3 = and_true (all_of (entry_in_range n) ts) _ n2.1 in
      let n4 = and_true (all_of is_blank (drop n ts)) _ n3.1 in
      let n5 = and_true (all_of (request_in_range n) ps) _ n4.1 in
      let n6 = and_true (all_of (sub_in_range n) r.subs) _ n5.1 in
      let n7 = and_true (leb r.sent most_sent) _ n6.1 in
      let n8 = and_true (all_of (message_in_range n) ms) _ n7.1 in
      let d1 = and_true (all_of (task_timely c) ts) _ d.0 in
      let j1 = and_true (up_to (waiters_at ts ps) n) _ j.0 in
      true_and (in_bounds n r.granule r.clock r.queued) _ n2.0
      (true_and (all_of (entry_right n c fs) ts) _ (all_join (entry_in_range n) _ ts n3.0 (all_join (task_timely c) _ ts d1.0 (all_join (is_started c) _ ts f.0 (all_join (task_unmet fs) dormant_entry_right ts g.0 k1.0))))
      (true_and (all_of is_blank (drop n ts)) _ n4.0
      (true_and (all_of (alarm_right c) r.alarms) _ d1.1
      (true_and (asked_right ts n r.queued r.pool) _
      (true_and (all_of (request_right ts n) ps) _ (all_join (request_in_range n) _ ps n5.0 (all_join names_others (target_busy ts) ps j1.1 h.0))
      (true_and (up_to (waiters_at ts ps) n) _ j1.0 l.0))
      (true_and (held_right ts n r.subs) _ (true_and (all_of (sub_in_range n) r.subs) _ n6.0 l1.0)
      (true_and (sent_right ts n r.sent r.messages) _
      (true_and (leb r.sent most_sent) _ n7.0
      (true_and (letters_right ts n highest ms) _
      (in_one-pass ts n highest ms ∙ true_and (all_of (message_in_range n) ms) _ n8.0 (true_and (all_of (is_untaken ts) ms) _ m1.0 m2.0)) m2.1))
      (mail-join ts n r.mail n8.1 k1.1)))))))

  pub in-passes : sizes_right ts r ≡ true → in_passes ts r ≡ all_but_queue ts r
  in-passes z = same (in_passes ts r) (all_but_queue ts r) (there z) back

  -- an answer that is right in passes is right, of arrays of the right sizes
  pub sized : {b : Bool} → length ts ≡ 16 → length r.alarms ≡ 32 → length r.pool ≡ 32 → length r.subs ≡ 8 → length r.messages ≡ 32 → length r.mail ≡ 16
      → b ≡ in_passes ts r → b ≡ all_but_queue ts r
  sized a d e g m l h = h ∙ in-passes (rw (eq-eqb _ _ a, eq-eqb _ _ d, eq-eqb _ _ e, eq-eqb _ _ g, eq-eqb _ _ m, eq-eqb _ _ l) refl)
