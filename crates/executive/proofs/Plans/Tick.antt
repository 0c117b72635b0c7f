-- The tick's plan is good.
use mathlib.Core.Path.{◌≡◌, refl, ◌∙◌}
use mathlib.Core.Bool.{Bool, true, false, ◌&&◌, cond}
use mathlib.Core.List.{List, [], ◌∷◌, ◌++◌}
use Prim.Native.Nat.{ℕ, zero, suc, ◌+◌, ◌^◌, ◌≤◌, ◌<◌, zero-le}
use native.Mathlib.Omega.{arith}
use borrow.Author.Tests.{ne_eqb, leb-true, leb-false, eqb-true, eqb-false}
use lib.Dec.{ltb, eqb, leb}
use lib.ListN.{length, get_or, set, length-set, get_or-eq_default}
use lib.Bits.{bit_or}
use Rattle.executive.specs.declared.Millis.{Millis}
use Rattle.executive.specs.declared.State.{State}
use Rattle.executive.specs.declared.Task.{Task}
use Rattle.executive.specs.declared.Request.{Request}
use Rattle.executive.specs.declared.Rest.{Rest}
use Rattle.executive.specs.declared.Table.{Table}
use Rattle.executive.specs.Entries.{aimed}
use Rattle.executive.specs.Plans.{holds, timed, raisings, risers, passing, tick_plan}
use Rattle.executive.specs.Flags.{met, with_flags, flag_set}
use Rattle.executive.specs.Numbers.{flag_count, end_of_time, longest}
use Rattle.executive.specs.Lists.{each}
use Rattle.executive.specs.Rest.{remade}
use Rattle.executive.specs.Clock.{with_alarm, with_clock, is_due, rung, advanced}
use Rattle.executive.specs.Places.{never, task_at}
use Rattle.executive.specs.Pool.{requests}
use Rattle.executive.specs.Table.{Join}
use Rattle.executive.specs.States.{due, state_kind, time_of, mask_of, is_of, has_time, has_mask, wait_mode}
use Rattle.executive.proofs.Plans.WorkingForm.{StateOk, EntryOk, RestOk, WellFormedByPart}
use Rattle.executive.proofs.Lists.Tests.{false_not_true, Lt, lt_yes, lt_no, ltb-is}
use Rattle.executive.proofs.Lists.Sums.{set_all}
use Rattle.executive.proofs.Plans.LinksKept.{LinksUpTo, links-up, up-links}
use Rattle.executive.proofs.Plans.GoodIsKept.{Good}
use Rattle.executive.proofs.Plans.SubsKept.{joined, subs_else}
use Rattle.executive.proofs.Plans.Rising.{Tells, Done, raisings-append, halfway, all_raised}
use Rattle.executive.proofs.waking.Over.{over}
use Rattle.executive.proofs.waking.Numbers.{woken, woken-counts}
use Rattle.executive.proofs.messages.Kept.{mail-beside}
use Rattle.executive.proofs.states.Laws.{counted, time-waits, mask-waits, mask-no-time, due-time}

-- what an alarm leaves alone: anything but the flags and the alarms
module _ {B : Type 0} (g : Rest → B)
    (alone : (r : Rest) (fs : ℕ) (al : List Millis) → g (remade r.clock fs al r.pool r.queued r) ≡ g r) where
  rung-alone : (r : Rest) (i : ℕ) → g (rung r i) ≡ g r
  unfolding rung
  rung-alone r i = go (is_due r.clock.0 (get_or r.alarms i never))
    where
      go : (x : Bool) → g (cond x (with_flags (flag_set r.flags i) (with_alarm i never r)) r) ≡ g r
      go true = alone r (bit_or r.flags (2 ^ i)) (set r.alarms i never)
      go false = refl

  rings_alone : (n k : ℕ) (r : Rest) → g (each rung n k r) ≡ g r
  unfolding each
  rings_alone zero k r = refl
  rings_alone (suc n) k r = rings_alone n (k + 1) (rung r k) ∙ rung-alone r k

  pub advanced-alone : (r : Rest) → g (advanced r) ≡ g (with_clock (record { 0 = r.clock.0 + r.granule }) r)
  unfolding advanced
  advanced-alone r = rings_alone 32 0 (with_clock (record { 0 = r.clock.0 + r.granule }) r)

module _ (a fa c fs : ℕ) where
  waits : (s : State) → over c fs s ≡ true → counted (state_kind s) ≡ 0
  waits s = go (has_time s) refl (has_mask s) refl
    where
      go : (b : Bool) → has_time s ≡ b → (d : Bool) → has_mask s ≡ d → cond b (leb (time_of s).0 c) (d && met fs (wait_mode s) (mask_of s)) ≡ true → counted (state_kind s) ≡ 0
      go true t d m e = time-waits s t
      go false t true m e = mask-waits s m
      go false t false m e = false_not_true e

  aims : a ≤ c → (s : State) (at : Millis) → over c fs s ≡ true → at.0 ≤ a → (aimed s at).0 ≤ c
  aims h s at e l = go (is_of due s) refl
    where
      go : (b : Bool) → is_of due s ≡ b → (cond b (time_of s) at).0 ≤ c
      go true d = leb-true (time_of s).0 c (rw (due-time s d) at e)
      go false d = omega arith

  calms : a ≤ c → (s : State) → over c fs s ≡ false → StateOk a fa s → StateOk c fs s
  calms h s e x = (λ t. (leb-false (time_of s).0 c (rw t at e), omega (arith, (x.0 t).1)), λ m. ((x.1 m).0, rw (mask-no-time s m, m) at e))

  pub over-tells : a ≤ c → Tells (over c fs) a fa c fs
  over-tells h = record { onward = h; waits = waits; aims = aims h; calms = calms h }

-- whose wait is over by time or by flags enters, in the order of the tick
woken-done : (p : List Request) (a fa c fs n : ℕ) → a ≤ c → (ts : List Task) → LinksUpTo ts p 0 0 0 → ((k : ℕ) → EntryOk a fa n k (task_at ts k))
    → Done (raisings (woken c fs ts)) ts p c fs n
woken-done p a fa c fs n h ts l o =
    let t : Tells (over c fs) a fa c fs = over-tells a fa c fs h in
    all_raised (over c fs) p a fa c fs n t (woken c fs ts) ts l (λ k. halfway (over c fs) p a fa c fs n t k (task_at ts k) (o k)) (woken-counts c fs ts)

-- ---- the alarms: those passed, before number k, are after the clock or not running; none is too far off
pub record Rung (r : Rest) (k : ℕ) : Type 0 where
  pub sized : length r.alarms ≡ flag_count
  pub passed : (i : ℕ) → i < k → 0 < (get_or r.alarms i never).0 → r.clock.0 < (get_or r.alarms i never).0
  pub near : (i : ℕ) → (get_or r.alarms i never).0 ≤ r.clock.0 + longest

set_here : (l : List Millis) (k : ℕ) → (get_or (set l k never) k never).0 ≡ 0
set_here [] k = refl
set_here (x ∷ l) zero = refl
set_here (x ∷ l) (suc k) = set_here l k

-- an alarm that is running and not due has its time ahead
not-due : (c : ℕ) (a : Millis) → is_due c a ≡ false → 0 < a.0 → c < a.0
not-due c a e h = leb-false a.0 c (rw (ne_eqb a.0 0 (λ z. omega arith)) at e)

rung-kept : (r : Rest) (k : ℕ) → Rung r k → Rung (rung r k) (k + 1)
unfolding rung
rung-kept r k h = go (is_due r.clock.0 (get_or r.alarms k never)) refl
  where
    -- what holds before k, and at k, holds up to k
    up : (P : ℕ → Type 0) → ((i : ℕ) → i < k → P i) → P k → (i : ℕ) → i < k + 1 → P i
    up P a b i g = by (eqb i k) refl
      where
        by : (x : Bool) → eqb i k ≡ x → P i
        by true e = rw (eqb-true i k e) b
        by false e = a i (omega (arith, eqb-false i k e))

    same : (0 < (get_or r.alarms k never).0 → r.clock.0 < (get_or r.alarms k never).0) → Rung r (k + 1)
    same at = record { sized = h.sized; passed = up (λ (i : ℕ). 0 < (get_or r.alarms i never).0 → r.clock.0 < (get_or r.alarms i never).0) h.passed at; near = h.near }

    go : (x : Bool) → is_due r.clock.0 (get_or r.alarms k never) ≡ x
        → Rung (cond x (with_flags (flag_set r.flags k) (with_alarm k never r)) r) (k + 1)
    go true e = record {
      sized = length-set r.alarms k never ∙ h.sized;
      passed = up (λ (i : ℕ). 0 < (get_or (set r.alarms k never) i never).0 → r.clock.0 < (get_or (set r.alarms k never) i never).0)
          (λ i g. set_all (λ (i : ℕ) (x : Millis). i < k → 0 < x.0 → r.clock.0 < x.0) r.alarms k never never (λ _ z. absurd (omega arith)) h.passed i g)
          (λ z. absurd (omega (arith, set_here r.alarms k)));
      near = set_all (λ (i : ℕ) (x : Millis). x.0 ≤ r.clock.0 + longest) r.alarms k never never zero-le h.near;
    }
    go false e = same (not-due r.clock.0 (get_or r.alarms k never) e)

pub rings_kept : (n k : ℕ) (r : Rest) → Rung r k → Rung (each rung n k r) (k + n)
unfolding each
rings_kept zero k r h = let z : k + 0 ≡ k = omega arith in rw z h
rings_kept (suc n) k r h = let z : k + suc n ≡ k + 1 + n = omega arith in rw z (rings_kept n (k + 1) (rung r k) (rung-kept r k h))

pub advanced-rung : (r : Rest) → RestOk r → Rung (advanced r) 32
unfolding advanced
advanced-rung r w = rings_kept 32 0 (with_clock (record { 0 = r.clock.0 + r.granule }) r) (record {
  sized = w.sized;
  passed = λ i h g. absurd (omega arith);
  near = λ i. far i (get_or r.alarms i never).0 refl;
})
  where
    far : (i m : ℕ) → (get_or r.alarms i never).0 ≡ m → m ≤ r.clock.0 + r.granule + longest
    far i zero e = zero-le
    far i (suc m) e = omega (arith, w.alarms i (rw e (omega arith)), e)

pub tick-good : (t : Table) → WellFormedByPart t → t.rest.clock.0 + t.rest.granule ≤ end_of_time → Good (tick_plan t) t
unfolding tick_plan
tick-good t w m =
    let r : Rest = advanced t.rest in
    let k : r.clock ≡ record { 0 = t.rest.clock.0 + t.rest.granule } = advanced-alone (λ (r : Rest). r.clock) (λ r fs al. refl) t.rest in
    let q : requests r ≡ requests t.rest = advanced-alone requests (λ r fs al. refl) t.rest in
    let pl : r.pool ≡ t.rest.pool = advanced-alone (λ (r : Rest). r.pool) (λ r fs al. refl) t.rest in
    let cn : r.count ≡ t.rest.count = advanced-alone (λ (r : Rest). r.count) (λ r fs al. refl) t.rest in
    let gr : r.granule ≡ t.rest.granule = advanced-alone (λ (r : Rest). r.granule) (λ r fs al. refl) t.rest in
    let al : Rung r 32 = advanced-rung t.rest w.rested in
    let n : r.queued ≡ t.rest.queued = advanced-alone (λ (r : Rest). r.queued) (λ r fs al. refl) t.rest in
    let sb : r.subs ≡ t.rest.subs = advanced-alone (λ (r : Rest). r.subs) (λ r fs al. refl) t.rest in
    let h : t.rest.clock.0 ≤ r.clock.0 = rw k (omega arith) in
    let js : List Join = raisings (timed r.clock.0 t.tasks) ++ risers (holds r.flags) 1 t.tasks in
    let d : Done js t.tasks (requests t.rest) r.clock.0 r.flags t.rest.count =
    rw (← raisings-append (timed r.clock.0 t.tasks) (passing (holds r.flags) 1 t.tasks))
    (woken-done (requests t.rest) t.rest.clock.0 t.rest.flags r.clock.0 r.flags t.rest.count h t.tasks (links-up w.links) w.own) in
    record {
      leaving = refl;
      joining = joined js t.tasks d.joining;
      linked = rw q (up-links d.linked);
      own = rw cn d.own;
      rested = record {
        count = rw cn w.rested.count;
        granule = rw gr w.rested.granule;
        clocked = rw k m;
        sized = al.sized;
        alarms = λ i g. (al.passed i (below i g) g, al.near i);
        priorities = rw q w.rested.priorities;
        neat = record { room = rw n w.fit.neat.room; clear = rw (q, pl) w.fit.neat.clear };
      };
      lined = rw sb (subs_else js t.tasks d.joining w.lined);
      mailed = mail-beside t.tasks t.rest r cn
          (advanced-alone (λ (r : Rest). r.messages) (λ r fs al. refl) t.rest)
          (advanced-alone (λ (r : Rest). r.sent) (λ r fs al. refl) t.rest)
          (advanced-alone (λ (r : Rest). r.mail) (λ r fs al. refl) t.rest) w.mailed;
    }
  where
    below : (i : ℕ) → 0 < (get_or (advanced t.rest).alarms i never).0 → i < 32
    below i g = go (ltb i 32) (ltb-is i 32)
      where
        go : (b : Bool) → Lt i 32 b → i < 32
        go true (lt_yes h) = h
        go false (lt_no h) = absurd (omega (arith, rw (get_or-eq_default (advanced t.rest).alarms never {n = i} (omega (arith, (advanced-rung t.rest w.rested).sized))) at g))
