-- What each kind decides, from what was read of an image: refused or done, as its sheet says.
use Prim.Native.Nat.{ℕ, ◌/◌, ◌%◌, ◌≤◌, ◌<◌}
use mathlib.Core.Path.{◌≡◌, refl, sym, ap, ◌∙◌}
use mathlib.Core.Bool.{Bool, true, false, not, cond, ◌||◌}
use mathlib.Core.List.{List}
use mathlib.Core.Logic.{◌≢◌}
use native.Mathlib.Omega.{arith}
use borrow.Author.Tests.{lt-ltb, le-ltb, le-leb, lt-leb, eq-eqb, ne_eqb}
use lib.Dec.{ltb, leb, eqb}
use lib.ListN.{length, get_or, take}
use lib.Seq.{length-take-le, get_or-take}
use Rattle.records.specs.declared.TaskNo.{TaskNo}
use Rattle.records.specs.declared.SubNo.{SubNo}
use Rattle.records.specs.declared.Text.{Text}
use Rattle.records.specs.declared.Call.TheVariants as call
use Rattle.executive.specs.declared.State.TheVariants as state
use Rattle.executive.specs.declared.Millis.{Millis}
use Rattle.executive.specs.declared.Task.{Task}
use Rattle.executive.specs.declared.Request.{Request}
use Rattle.executive.specs.declared.Rest.{Rest}
use Rattle.executive.specs.declared.decisions.Leave.TheVariants as leave
use Rattle.executive.specs.declared.decisions.Change.TheVariants as change
use Rattle.executive.specs.Places.{no_request, task_at}
use Rattle.executive.specs.Pool.{requests, place_of}
use Rattle.executive.specs.Table.{head_of, ahead_of}
use Rattle.executive.specs.Numbers.{end_of_time, last_unit, most_queued}
use Rattle.executive.specs.Lists.{◌and◌}
use Rattle.executive.specs.Flags.{met, mode_of}
use Rattle.executive.specs.States.{is_paused, is_dormant, takes}
use Rattle.executive.specs.Subprograms.{sub_at, line_of, holds_any_of}
use Rattle.executive.specs.Messages.{no_message, letters, first_fit, stay_ahead, urgency}
use Rattle.executive.specs.Decisions.{wakes, deed, alone, anew_deed, sleep_deed, terminate_deed, restart_deed, pause_deed, cancel_pause_deed, start_if_dormant_deed, start_or_queue_deed, wait_deed, enter_deed, exit_deed, send_deed, receive_deed, receive_deed_by, refusing, doing}
use Rattle.executive.specs.Sheet.{only_z, restart_marks, hands_out, no_such_task, decided}

-- a task that is not 1 to the count m
pub such-task : (r : Rest) (k : TaskNo) (m : ℕ) (b : Bool) → m ≡ r.count → b ≡ (eqb k.0 0 || ltb m k.0) → b ≡ no_such_task r k
such-task r k m b e f = f ∙ ap (λ j. eqb k.0 0 || ltb j k.0) e

module _ (ts : List Task) (r : Rest) (c : TaskNo) where
  -- ---- 00: whether the caller holds a subprogram, its entry, how many requests are queued, the place of the first for it
  module _ (b : Bool) (eb : b ≡ holds_any_of c r.subs) where
    pub end-held : b ≡ true → refusing 15 ≡ decided ts r c call.Terminate
    unfolding decided
    end-held h = rw (← eb, h) refl

    module _ (h : b ≡ false) (w : TaskNo) (ew : w ≡ (task_at ts c.0).end_waiter) (n i : ℕ) (en : n ≡ r.queued) (ei : i ≡ place_of c.0 (take n r.pool)) (z : length r.pool ≡ 32) (q : r.queued ≤ 32) where
      many : length (requests r) ≡ r.queued
      many = length-take-le r.queued r.pool (omega arith)

      first : place_of c.0 (requests r) ≡ i
      first = sym (ei ∙ ap (λ k. place_of c.0 (take k r.pool)) en)

      pub end_anew : i < n → (x : Request) → x ≡ get_or r.pool i no_request → doing (only_z false) (anew_deed w c x i) ≡ decided ts r c call.Terminate
      unfolding decided terminate_deed
      end_anew l x ex =
          let m : length (requests r) ≡ r.queued = many in
          let y : ltb i (length (requests r)) ≡ true = lt-ltb i (length (requests r)) (omega (arith, m, en, l)) in
          let g : get_or (requests r) i no_request ≡ x = get_or-take r.queued r.pool i no_request (omega (arith, en, l)) ∙ sym ex in
          rw (← eb, h, first, y, g, ew) refl

      pub end_none : n ≤ i → doing (only_z false) (sleep_deed w c) ≡ decided ts r c call.Terminate
      unfolding decided terminate_deed
      end_none l =
          let m : length (requests r) ≡ r.queued = many in
          let y : ltb i (length (requests r)) ≡ false = le-ltb i (length (requests r)) (omega (arith, m, en, l)) in
          rw (← eb, h, first, y, ew) refl

  -- ---- 01 to 05, 0A: an entry e, the clock x, what the rest counts
  pub restarted : (m : Millis) (w : TaskNo) (x p n : ℕ) (b : Bool) → m ≡ (task_at ts c.0).start → w ≡ (task_at ts c.0).end_waiter → x ≡ r.clock.0 → b ≡ holds_any_of c r.subs → r.clock.0 ≤ end_of_time
      → (task_at ts c.0).start.0 ≤ r.clock.0
      → cond (ltb end_of_time x || ltb x m.0) (refusing 1)
      (cond (eqb (p / 64 % 4) 3) (refusing 6) (cond b (refusing 15) (doing (restart_marks m (record { 0 = x }) p n)
      (restart_deed c (record { own = 0; state = state.Dormant; priority = 0; argument = 0; start = m; end_waiter = w }) (record { 0 = x }) p n))))
      ≡ decided ts r c (call.Restart p n)
  unfolding decided restart_deed
  restarted m w x p n b em ew ex eb h g = rw (em, ew, ex, eb, le-ltb end_of_time r.clock.0 h, le-ltb r.clock.0 (task_at ts c.0).start.0 g) refl

  pub paused : (x u n : ℕ) → x ≡ r.clock.0 → r.clock.0 ≤ end_of_time
      → cond (ltb end_of_time x) (refusing 1) (cond (ltb last_unit u) (refusing 6) (doing (only_z (eqb n 0)) (pause_deed (record { 0 = x }) u n))) ≡ decided ts r c (call.Pause u n)
  unfolding decided
  paused x u n ex h = rw (ex, le-ltb end_of_time r.clock.0 h) refl

  pub cancelled : (e : Task) (m : ℕ) (k : TaskNo) → e ≡ task_at ts k.0 → m ≡ r.count
      → cond (eqb k.0 0 || ltb m k.0) (refusing 6) (doing (only_z (not (is_paused e.state))) (cancel_pause_deed e.state k)) ≡ decided ts r c (call.CancelPause k)
  unfolding decided
  cancelled e m k ee em = rw (ee, em) refl

  pub started : (e : Task) (m o : ℕ) (k : TaskNo) → e ≡ task_at ts k.0 → m ≡ r.count
      → cond ((eqb k.0 0 || ltb m k.0) || not (eqb (o / 16 % 8) 0)) (refusing 6) (doing (only_z (not (is_dormant e.state))) (start_if_dormant_deed c e o k))
      ≡ decided ts r c (call.StartIfDormant o k)
  unfolding decided
  started e m o k ee em = rw (ee, em) refl

  pub queued : (e : Task) (m n o : ℕ) (k : TaskNo) (a : ℕ) → e ≡ task_at ts k.0 → m ≡ r.count → n ≡ r.queued
      → cond ((eqb k.0 0 || ltb m k.0) || eqb (o / 32 % 4) 3) (refusing 6)
      (cond (eqb k.0 c.0 and not (eqb (o / 32 % 4) 0)) (refusing 7)
      (cond (not (is_dormant e.state) and leb most_queued n) (refusing 8) (doing (only_z (not (is_dormant e.state))) (start_or_queue_deed c e o k a))))
      ≡ decided ts r c (call.StartOrQueue o k a)
  unfolding decided
  queued e m n o k a ee em en = rw (ee, em, en) refl

  pub waited : (f m mask : ℕ) → f ≡ r.flags
      → cond (ltb 1 m || eqb mask 0) (refusing 6) (doing (only_z (met f (mode_of m) mask)) (wait_deed f m mask)) ≡ decided ts r c (call.Wait m mask)
  unfolding decided
  waited f m mask ef = rw ef refl

  -- ---- 06, 07: the subprogram m as it is, its holder x
  module _ (m : SubNo) where
    pub enter-bad : 7 < m.0 → refusing 6 ≡ decided ts r c (call.Enter m)
    unfolding decided
    enter-bad h = rw (lt-ltb 7 m.0 h) refl

    pub exit_bad : 7 < m.0 → refusing 6 ≡ decided ts r c (call.Exit m)
    unfolding decided
    exit_bad h = rw (lt-ltb 7 m.0 h) refl

    module _ (h : m.0 ≤ 7) (x : ℕ) (ex : x ≡ (sub_at r m.0).holder.0) where
      pub enter-inside : c.0 ≡ x → refusing 13 ≡ decided ts r c (call.Enter m)
      unfolding decided
      enter-inside e = rw (le-ltb 7 m.0 h, ← ex, eq-eqb c.0 x e) refl

      pub enter-free : c.0 ≢ x → x ≡ 0 → doing (only_z false) (alone leave.Stays (change.Held m c)) ≡ decided ts r c (call.Enter m)
      unfolding decided enter_deed
      enter-free e z = rw (le-ltb 7 m.0 h, ← ex, ne_eqb c.0 x e, eq-eqb x 0 z) refl

      pub enter-held : c.0 ≢ x → x ≢ 0 → (n p at : ℕ) → n ≡ (sub_at r m.0).waiting → p ≡ (task_at ts c.0).priority → at ≡ ahead_of ts p (take n (sub_at r m.0).line)
          → doing (only_z false) (alone (leave.As (state.AwaitSub m)) (change.Lined m c at)) ≡ decided ts r c (call.Enter m)
      unfolding decided enter_deed
      enter-held e z n p at en ep ea =
          let y : at ≡ ahead_of ts (task_at ts c.0).priority (line_of (sub_at r m.0)) = ea ∙ (λ j. ahead_of ts (ep j) (take (en j) (sub_at r m.0).line)) in
          rw (y, le-ltb 7 m.0 h, ← ex, ne_eqb c.0 x e, ne_eqb x 0 z) refl

      pub exit_outside : c.0 ≢ x → refusing 14 ≡ decided ts r c (call.Exit m)
      unfolding decided
      exit_outside e = rw (le-ltb 7 m.0 h, ← ex, ne_eqb c.0 x e) refl

      pub exit_done : c.0 ≡ x → (w : TaskNo) → w ≡ head_of (line_of (sub_at r m.0)) → doing (only_z false) (deed leave.Stays (wakes w) no_request (change.HandedOn m)) ≡ decided ts r c (call.Exit m)
      unfolding decided exit_deed
      exit_done e w ew = rw (ew, le-ltb 7 m.0 h, ← ex, eq-eqb c.0 x e) refl

  -- ---- 14: whether there is no such task, its entry, whether it takes the message
  module _ (k : TaskNo) (x : Text) (a : Bool) (ea : a ≡ no_such_task r k) where
    pub send-bad : a ≡ true → refusing 6 ≡ decided ts r c (call.Send k x)
    unfolding decided
    send-bad h = rw (← ea, h) refl

    module _ (h : a ≡ false) (b : Bool) (eb : b ≡ takes c.0 (task_at ts k.0).state) where
      pub send-taken : b ≡ true → doing (only_z false) (deed leave.Stays (wakes k) no_request (change.Delivered k (record { sender = c; text = x }))) ≡ decided ts r c (call.Send k x)
      unfolding decided send_deed
      send-taken g = rw (← ea, h, ← eb, g) refl

      pub send-crowded : b ≡ false → 32 ≤ r.sent → refusing 16 ≡ decided ts r c (call.Send k x)
      unfolding decided
      send-crowded g m = rw (← ea, h, ← eb, g, le-leb 32 r.sent m) refl

      pub send-waits : b ≡ false → r.sent < 32 → (p at : ℕ) → p ≡ (task_at ts c.0).priority → at ≡ stay_ahead urgency p (letters r)
          → doing (only_z false) (alone leave.Stays (change.Posted (record { to = k; sender = c; priority = p; text = x }) at)) ≡ decided ts r c (call.Send k x)
      unfolding decided send_deed
      send-waits g m p at ep e =
          let y : at ≡ stay_ahead urgency (task_at ts c.0).priority (letters r) = e ∙ ap (λ j. stay_ahead urgency j (letters r)) ep in
          rw (y, ep, ← ea, h, ← eb, g, lt-leb 32 r.sent m) refl

  -- ---- 15: how many messages wait, the place of the first that fits
  module _ (s : TaskNo) where
    pub receive-bad : r.count < s.0 → refusing 6 ≡ decided ts r c (call.Receive s)
    unfolding decided
    receive-bad h = rw (lt-ltb r.count s.0 h) refl

    pub receive-done : s.0 ≤ r.count → length r.messages ≡ 32 → r.sent ≤ 32 → (n i : ℕ) → n ≡ r.sent → i ≡ first_fit c.0 s.0 (take n r.messages)
        → doing (hands_out (get_or (take n r.messages) i no_message)) (receive_deed_by c s i n) ≡ decided ts r c (call.Receive s)
    unfolding decided receive_deed
    receive-done h z q n i en ei =
        let m : length (letters r) ≡ r.sent = length-take-le r.sent r.messages (omega arith) in
        let y : i ≡ first_fit c.0 s.0 (letters r) = ei ∙ ap (λ k. first_fit c.0 s.0 (take k r.messages)) en in
        rw (y, en, le-ltb r.count s.0 h, m) refl
