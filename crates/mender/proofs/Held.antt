-- The fourth and the fifth pass: what they leave of holders and alarms and what they make of each entry; the rest they keep.
use Prim.Native.Nat.{ℕ, zero, suc, ◌≤◌, ◌<◌}
use mathlib.Core.Path.{◌≡◌, refl, sym, ap, ◌∙◌}
use mathlib.Core.Bool.{Bool, true, false, not, cond, ◌||◌}
use mathlib.Core.List.{List}
use native.Mathlib.Omega.{arith}
use borrow.Author.Tests.{eqb-true, ltb-true, ltb-false}
use lib.Dec.{eqb, ltb}
use lib.ListN.{get_or}
use Rattle.executive.specs.declared.Millis.{Millis}
use Rattle.executive.specs.declared.State.{State}
use Rattle.executive.specs.declared.Task.{Task}
use Rattle.executive.specs.declared.Sub.{Sub}
use Rattle.executive.specs.declared.Rest.{Rest}
use Rattle.executive.specs.declared.Table.{Table}
use Rattle.executive.specs.Numbers.{most_tasks, flag_count, sub_count}
use Rattle.executive.specs.Lists.{◌and◌}
use Rattle.executive.specs.Places.{nobody, never, no_task, task_at}
use Rattle.executive.specs.States.{await_start, await_end, await_sub, state_kind, awaited_of, is_of, is_dormant}
use Rattle.executive.specs.Messages.{mail_at}
use Rattle.executive.specs.Subprograms.{no_subprogram, sub_at}
use Rattle.executive.specs.Check.{is_nobody, alarm_right}
use Rattle.executive.proofs.Assured.{false_not_true, dormant-is}
use Rattle.mender.specs.Passes.{is_holder, sub_after, alarm_after, held_pass, named_at, awaits_link, is_lost, waiter_after, waiter_pass}
use Rattle.mender.specs.Promises.{waits_for_other}
use Rattle.mender.proofs.Rows.{row-length, row_at, row-past}
use Rattle.mender.proofs.Passed.{Owned, Queued, Held}
use Rattle.mender.proofs.OwnRules.{fewer-right}

-- ---- a holder that stays is a busy task; an alarm that stays is in range
holder-right : (n : ℕ) (ts : List Task) (s : Sub) → is_nobody (sub_after n ts s).holder || is_holder n ts (sub_after n ts s).holder ≡ true
unfolding sub_after
holder-right n ts s = go (is_holder n ts s.holder) refl
  where
    go : (b : Bool) → is_holder n ts s.holder ≡ b → is_nobody (cond b s.holder nobody) || is_holder n ts (cond b s.holder nobody) ≡ true
    go true e = rw e (or_true (is_nobody s.holder))
      where
        or_true : (b : Bool) → b || true ≡ true
        or_true true = refl
        or_true false = refl
    go false e = refl

alarm-right : (c : ℕ) (a : Millis) → alarm_right c (alarm_after c a) ≡ true
alarm-right c a = go (alarm_right c a) refl
  where
    go : (b : Bool) → alarm_right c a ≡ b → alarm_right c (cond b a never) ≡ true
    go true e = e
    go false e = refl

module _ (t : Table) where
  abbrev r : Rest
  r = t.rest

  pub held-alarm : (i : ℕ) → i < flag_count → get_or (held_pass t).rest.alarms i never ≡ alarm_after r.clock.0 (get_or r.alarms i never)
  unfolding held_pass
  held-alarm i h = row_at (λ i. alarm_after r.clock.0 (get_or r.alarms i never)) never flag_count i h

  pub held-pass : Held (held_pass t)
  unfolding held_pass
  held-pass = record {
    subs = row-length _ sub_count 0;
    holders = λ m. of-sub m (ltb m sub_count) refl;
    sized = row-length _ flag_count 0;
    alarms = λ i. of-alarm i (ltb i flag_count) refl;
  }
    where
      of-sub : (m : ℕ) (b : Bool) → ltb m sub_count ≡ b
          → is_nobody (sub_at (held_pass t).rest m).holder || is_holder r.count t.tasks (sub_at (held_pass t).rest m).holder ≡ true
      of-sub m true e = rw (row_at (λ i. sub_after r.count t.tasks (get_or r.subs i no_subprogram)) no_subprogram sub_count m (ltb-true _ _ e)) (holder-right r.count t.tasks (get_or r.subs m no_subprogram))
      of-sub m false e = rw (row-past (λ i. sub_after r.count t.tasks (get_or r.subs i no_subprogram)) no_subprogram sub_count m (ltb-false _ _ e)) refl

      of-alarm : (i : ℕ) (b : Bool) → ltb i flag_count ≡ b → alarm_right r.clock.0 (get_or (held_pass t).rest.alarms i never) ≡ true
      of-alarm i true e = rw (held-alarm i (ltb-true _ _ e)) (alarm-right r.clock.0 (get_or r.alarms i never))
      of-alarm i false e = rw (row-past (λ i. alarm_after r.clock.0 (get_or r.alarms i never)) never flag_count i (ltb-false _ _ e)) refl

  -- it touches neither the entries nor the requests and messages
  pub held_keeps : Owned t → Queued t → Owned (held_pass t) × Queued (held_pass t)
  unfolding held_pass
  held_keeps o q = (
    record {
      tasks = o.tasks;
      mail = o.mail;
      own = λ k. fewer-right r (held_pass t).rest k (task_at t.tasks k) (mail_at r.mail k) refl refl refl (λ m h. h) (o.own k);
    },
    record {
      pool = record { room = q.pool.room; clear = q.pool.clear };
      asked = q.asked;
      messages = record { room = q.messages.room; clear = q.messages.clear };
      sent = q.sent;
    },
  )

-- ---- waiters: who becomes ready waited for a start, an end or a subprogram
pub lost-waits : (ss : List Sub) (b : Bool) (s : State) → is_lost ss b s ≡ true → waits_for_other s ≡ true
unfolding is_lost
lost-waits ss b s = go (awaits_link s) (is_of await_sub s) (not b) (is_nobody (get_or ss (awaited_of s) no_subprogram).holder)
  where
    go : (c d x y : Bool) → cond c x (d and y) ≡ true → c || d ≡ true
    go true d x y e = refl
    go false true x y e = refl
    go false false x y e = false_not_true e

pub waits-busy : (s : State) → waits_for_other s ≡ true → is_dormant s ≡ false
waits-busy s = go (is_dormant s) refl
  where
    go : (b : Bool) → is_dormant s ≡ b → waits_for_other s ≡ true → b ≡ false
    go true e w = false_not_true (ap (λ (x : State). waits_for_other x) (sym (dormant-is s e)) ∙ w)
    go false e w = refl

-- nobody is lost after it; and whoever waits for a subprogram then waits for one that is held
pub found-sub : (ss : List Sub) (b : Bool) (s : State) → is_lost ss b s ≡ false → is_of await_sub s ≡ true → is_nobody (get_or ss (awaited_of s) no_subprogram).holder ≡ false
unfolding is_lost
found-sub ss b s h w =
    let k : await_sub ≡ state_kind s = eqb-true await_sub (state_kind s) w in
    let z : awaits_link s ≡ false = ap (λ (n : ℕ). eqb await_start n || eqb await_end n) (sym k) in
    rw (z, w) at h

-- what the last pass makes of each entry, named or not
module _ (bs : List Bool) (t : Table) where
  pub waiter-entry : (k : ℕ) → 0 < k → k ≤ most_tasks → task_at (waiter_pass bs t).tasks k ≡ waiter_after t.rest.subs (named_at bs k) (task_at t.tasks k)
  unfolding waiter_pass task_at named_at
  waiter-entry zero g h = absurd (omega arith)
  waiter-entry (suc i) g h = row_at (λ i. waiter_after t.rest.subs (get_or bs i false) (get_or t.tasks i no_task)) no_task most_tasks i (omega arith)
