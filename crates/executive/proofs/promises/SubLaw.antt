-- One task at a time is in a subprogram, of every step.
use Prim.Native.Nat.{ℕ, ◌≤◌, ◌<◌}
use mathlib.Core.Path.{◌≡◌, refl, sym, ap, ◌∙◌}
use mathlib.Core.Logic.{◌≢◌}
use mathlib.Core.Bool.{Bool, true, false, not, cond}
use mathlib.Core.List.{List, [], ◌∷◌}
use native.Mathlib.Omega.{arith}
use borrow.Author.Tests.{eqb-true, eq-eqb, ltb-false}
use lib.Dec.{ltb, eqb}
use lib.ListN.{length, get_or}
use lib.Seq.{get_or-set_same}
use Rattle.records.specs.Firsts.{first_of}
use Rattle.records.specs.Kinds.{kind_of}
use Rattle.records.specs.Reading.{read_as, read_of}
use Rattle.records.specs.Numbers.{Bytes}
use Rattle.records.specs.declared.TaskNo.{TaskNo}
use Rattle.records.specs.declared.FlagNo.{FlagNo}
use Rattle.records.specs.declared.SubNo.{SubNo}
use Rattle.records.specs.declared.Call.{Call}
use Rattle.records.specs.declared.Call.TheVariants as call
use Rattle.executive.specs.declared.State.TheVariants.{Dormant, Ready}
use Rattle.executive.specs.declared.Sub.{Sub}
use Rattle.executive.specs.declared.Rest.{Rest}
use Rattle.executive.specs.declared.Table.{Table}
use Rattle.executive.specs.Numbers.{last_sub}
use Rattle.executive.specs.Lists.{pad, sum_of, up_to, all_of}
use Rattle.executive.specs.Places.{task_at, put_at}
use Rattle.executive.specs.Queue.{behind, count, active_of}
use Rattle.executive.specs.Table.{enter_at, entered, enter_in_flight, enter_all_in_flight, apply_in_flight, levels_of, items, head_of, Plan, depart, apply}
use Rattle.executive.specs.Entries.{with_state}
use Rattle.executive.specs.Flags.{met, mode_of}
use Rattle.executive.specs.Pool.{requests, place_of}
use Rattle.executive.specs.Subprograms.{no_subprogram, sub_at, line_of, enters_it, waits_behind, handed_on, with_sub}
use Rattle.executive.specs.States.{is_dormant, is_paused, waits_for, takes}
use Rattle.executive.specs.Messages.{letters, first_fit, mail_at}
use Rattle.executive.specs.Plans.{send_plan, receive_plan}
use Rattle.executive.specs.Plans.{caller, state_at, nothing, waking, terminate_plan, restart_plan, pause_plan, cancel_pause_plan, start_now_plan, queue_request_plan, start_if_dormant_plan}
use Rattle.executive.specs.Plans.{start_or_queue_plan, set_plan, reset_plan, flag_plan, wait_plan, alarm_plan, tick_plan, enter_plan, exit_plan}
use Rattle.executive.specs.WellFormed.{WellFormed}
use Rattle.executive.specs.Check.{all_but_queue, numbers_right, falls, exact_at, queue_right, times_right, started_right, masks_right, busy_right, waiters_at, waiters_right}
use Rattle.executive.specs.Check.{dormant_right, emptied_at, pool_right, subs_from, subs_right, letters_fall, messages_right, is_well_formed}
use Rattle.executive.specs.Sheet.{plan_of, marks_of}
use Rattle.executive.specs.Refusals.{nobody_active, bad_body, holds_it, holds_not, holds_any, names_caller, alarm_running, pool_full, mail_full, ends_time, refusals, call_in}
use Rattle.executive.specs.Step.{accepted, step_of}
use Rattle.executive.specs.Promises.Demands.{plan_of_record, after}
use Rattle.executive.specs.Promises.SubLaw.{holder_of, waiters_of, Waits, Does, sensor, HandedOver, OneAtATime, Lined, SubLaw}
use Rattle.executive.proofs.Lists.Tests.{not-zero, eqb_no, false_not_true}
use Rattle.executive.proofs.Lists.Sums.{set_all}
use Rattle.executive.proofs.places.TaskAt.{at_same}
use Rattle.executive.proofs.states.Laws.{dormant-kind, sub-named, sub-kind}
use Rattle.executive.proofs.Plans.WorkingForm.{SubOk, WellFormedByPart, formed, line-waiting}
use Rattle.executive.proofs.Plans.Moves.{out-tasks}
use Rattle.executive.proofs.Plans.QueueKept.{head-is}
use Rattle.executive.proofs.Plans.GoodIsKept.{puts, after-tasks, joins-tasks}
use Rattle.executive.proofs.Plans.Tick.{advanced-alone}
use Rattle.executive.proofs.Plans.Enter.{waits_plan, gets_in_plan}
use Rattle.executive.proofs.refusals.NothingRefuses.{Clear, clear_of}
use Rattle.executive.proofs.step.Dispatched.{Picks, picks}
use Rattle.executive.proofs.step.StepIsPlan.{call-allowed, step_is}
use Rattle.executive.proofs.step.FirstThatHolds.{step-number, allowed}
use Rattle.executive.proofs.promises.Demands.{kept}

-- ---- which calls leave the subprograms as they were, and which the holders
module _ (t : Table) where
  record Keeps (p : Plan) : Type 0 where
    pub subs : p.rest.subs ≡ t.rest.subs

  either : (b : Bool) (p q : Plan) → p.rest.subs ≡ t.rest.subs → q.rest.subs ≡ t.rest.subs → Keeps (cond b p q)
  either true p q x y = record { subs = x }
  either false p q x y = record { subs = y }

  set_keeps : (f : FlagNo) → (set_plan t f).rest.subs ≡ t.rest.subs
  unfolding set_plan
  set_keeps f = refl

  module _ (m : SubNo) where
    abbrev Holds : Plan → Type 0
    Holds p = (sub_at p.rest m.0).holder.0 ≡ holder_of t m

    same : (p : Plan) → Keeps p → Holds p
    same p e = ap (λ (ss : List Sub). (get_or ss m.0 no_subprogram).holder.0) e.subs

    -- another is set: this one's holder stays
    other : (n : ℕ) (s : Sub) → eqb m.0 n ≡ false → (sub_at (with_sub n s t.rest) m.0).holder.0 ≡ holder_of t m
    other n s d = set_all (λ (k : ℕ) (x : Sub). eqb k n ≡ false → x.holder.0 ≡ (get_or t.rest.subs k no_subprogram).holder.0) t.rest.subs n s no_subprogram
        (λ z. absurd (eqb_no n n z refl)) (λ k _. refl) m.0 d

    -- one is set whose holder stays: so do all
    alike : (n : ℕ) (s : Sub) → s.holder.0 ≡ (get_or t.rest.subs n no_subprogram).holder.0 → (sub_at (with_sub n s t.rest) m.0).holder.0 ≡ holder_of t m
    alike n s e = set_all (λ (k : ℕ) (x : Sub). x.holder.0 ≡ (get_or t.rest.subs k no_subprogram).holder.0) t.rest.subs n s no_subprogram e (λ k. refl) m.0

    this : (n : SubNo) → eqb m.0 n.0 ≡ true → n ≡ m
    this n e = λ i. record { 0 = sym (eqb-true m.0 n.0 e) i }

    enter-holds : (n : SubNo) → (call.Enter n ≡ call.Enter m → holder_of t m ≢ 0) → Holds (enter_plan t n)
    unfolding enter_plan
    enter-holds n h = go (eqb (holder_of t n) 0) refl
      where
        by : (b : Bool) → eqb m.0 n.0 ≡ b → holder_of t n ≡ 0 → Holds (gets_in_plan t n)
        by true e z = absurd (h (ap call.Enter (this n e)) (ap (holder_of t) (sym (this n e)) ∙ z))
        by false e z = other n.0 (enters_it (caller t) (sub_at t.rest n.0)) e

        go : (b : Bool) → eqb (holder_of t n) 0 ≡ b → Holds (cond (not b) (waits_plan t n) (gets_in_plan t n))
        go true z = by (eqb m.0 n.0) refl (eqb-true (holder_of t n) 0 z)
        go false z = alike n.0 (waits_behind t.tasks (caller t) (sub_at t.rest n.0)) refl

    exit_holds : (n : SubNo) → (call.Exit n ≡ call.Exit m → ⊥) → Holds (exit_plan t n)
    unfolding exit_plan
    exit_holds n h = by (eqb m.0 n.0) refl
      where
        by : (b : Bool) → eqb m.0 n.0 ≡ b → (sub_at (with_sub n.0 (handed_on (sub_at t.rest n.0)) t.rest) m.0).holder.0 ≡ holder_of t m
        by true e = absurd (h (ap call.Exit (this n e)))
        by false e = other n.0 (handed_on (sub_at t.rest n.0)) e

    call-holds : (c : Call) → (c ≡ call.Enter m → holder_of t m ≢ 0) → (c ≡ call.Exit m → ⊥) → Holds (plan_of t c)
    unfolding plan_of terminate_plan restart_plan pause_plan cancel_pause_plan start_now_plan queue_request_plan start_if_dormant_plan start_or_queue_plan reset_plan flag_plan wait_plan alarm_plan tick_plan send_plan receive_plan
    call-holds call.Terminate a b = same (terminate_plan t)
        (either (ltb (place_of (caller t).0 (requests t.rest)) (length (requests t.rest))) _ _ refl refl)
    call-holds (call.Restart p n) a b = refl
    call-holds (call.Pause u n) a b = same (pause_plan t u n) (either (eqb n 0) _ _ refl refl)
    call-holds (call.CancelPause k) a b = same (cancel_pause_plan t k) (either (is_paused (state_at t k)) _ _ refl refl)
    call-holds (call.StartIfDormant o k) a b = same (start_if_dormant_plan t o k) (either (is_dormant (state_at t k)) _ _ refl refl)
    call-holds (call.StartOrQueue o k x) a b = same (start_or_queue_plan t o k x) (either (is_dormant (state_at t k)) _ _ refl refl)
    call-holds (call.Flag o f) a b = same (flag_plan t o f) (either (eqb o 0) _ _ refl (either (eqb o 1) _ _ (set_keeps f) refl).subs)
    call-holds (call.Wait n mask) a b = same (wait_plan t n mask) (either (met t.rest.flags (mode_of n) mask) _ _ refl refl)
    call-holds (call.Alarm u n f) a b = same (alarm_plan t u n f) (either (eqb n 0) _ _ (set_keeps f) refl)
    call-holds call.Tick a b = same (tick_plan t) (record { subs = advanced-alone (λ (r : Rest). r.subs) (λ r fs al. refl) t.rest })
    call-holds (call.Granule g) a b = refl
    call-holds (call.Task p n) a b = refl
    call-holds call.End a b = refl
    call-holds (call.Enter n) a b = enter-holds n a
    call-holds (call.Exit n) a b = exit_holds n b
    call-holds (call.Send k x) a b = same (send_plan t k x) (either (takes (caller t).0 (state_at t k)) _ _ refl refl)
    call-holds (call.Receive s) a b = same (receive_plan t s)
        (either (ltb (first_fit (caller t).0 s.0 (letters t.rest)) (length (letters t.rest))) _ _ refl refl)

-- ---- a step
module _ (t : Table) (s : List ℕ) (w : WellFormed t) (bytes : Bytes s) where
  abbrev u : Table
  u = (step_of t s).table

  step-rest : u.rest ≡ (plan_of_record t s).rest
  unfolding apply
  step-rest = ap (λ (x : Table). x.rest) (step_is t s w bytes).table

  step-tasks : u.tasks ≡ after-tasks (plan_of_record t s) t
  unfolding apply
  step-tasks =
      let p : Plan = plan_of_record t s in
      ap (λ (x : Table). x.tasks) (step_is t s w bytes).table ∙ joins-tasks p.ins (depart p.out t) ∙ ap (puts p.ins) (out-tasks p.out t)

  planned : (c : Call) → Does t s c → plan_of_record t s ≡ plan_of t c
  unfolding plan_of_record
  planned c d = rw (eq-eqb (first_of (refusals t s)) 0 (allowed t s d.accepted), d.call) refl

  clear : (c : Call) → Does t s c → Clear t c
  clear c d = rw d.call at (clear_of t (call_in s) (call-allowed t s (allowed t s d.accepted)))

  module _ (m : SubNo) where
    abbrev old : Sub
    old = sub_at t.rest m.0

    o : SubOk t.tasks m.0 old
    o = (formed w).lined.each m.0

    -- the one that was set is read again
    read_again : (x : Sub) → m.0 ≤ last_sub → sub_at (with_sub m.0 x t.rest) m.0 ≡ x
    read_again x h = get_or-set_same t.rest.subs m.0 x no_subprogram (omega (arith, (formed w).lined.sized))

    -- the holder after the step is in the plan's rest
    step-holder : (p : Plan) → plan_of_record t s ≡ p → holder_of u m ≡ (sub_at p.rest m.0).holder.0
    step-holder p e = ap (λ (r : Rest). (sub_at r m.0).holder.0) (step-rest ∙ ap (λ (p : Plan). p.rest) e)

    enters : Does t s (call.Enter m) → holder_of t m ≡ 0 → holder_of u m ≡ (caller t).0
    unfolding plan_of enter_plan bad_body
    enters d z = step-holder (plan_of t (call.Enter m)) (planned (call.Enter m) d) ∙ go (eqb (holder_of t m) 0) (eq-eqb (holder_of t m) 0 z)
      where
        go : (b : Bool) → b ≡ true → (sub_at (cond (not b) (waits_plan t m) (gets_in_plan t m)).rest m.0).holder.0 ≡ (caller t).0
        go true e = ap (λ (x : Sub). x.holder.0) (read_again (enters_it (caller t) old) (ltb-false last_sub m.0 (clear (call.Enter m) d).body))
        go false e = false_not_true e

    first-of : (xs : List TaskNo) → (head_of xs).0 ≡ active_of (items t.tasks xs)
    unfolding items active_of
    first-of [] = refl
    first-of (k ∷ xs) = refl

    handed : Does t s (call.Exit m) → holder_of u m ≡ (head_of (line_of old)).0
    unfolding plan_of exit_plan bad_body
    handed d =
        step-holder (plan_of t (call.Exit m)) (planned (call.Exit m) d)
        ∙ ap (λ (x : Sub). x.holder.0) (read_again (handed_on old) (ltb-false last_sub m.0 (clear (call.Exit m) d).body))

    only-holder : Does t s (call.Exit m) → holder_of t m ≡ (caller t).0
    unfolding holds_not
    only-holder d = go (eqb (caller t).0 (holder_of t m)) refl (clear (call.Exit m) d).outside
      where
        go : (b : Bool) → eqb (caller t).0 (holder_of t m) ≡ b → not b ≡ false → holder_of t m ≡ (caller t).0
        go true e z = sym (eqb-true (caller t).0 (holder_of t m) e)
        go false e z = false_not_true (sym z)

    unmoved : (Does t s (call.Enter m) → holder_of t m ≢ 0) → (Does t s (call.Exit m) → ⊥) → holder_of u m ≡ holder_of t m
    unfolding plan_of_record
    unmoved a b = step-holder (plan_of_record t s) refl ∙ go (eqb (first_of (refusals t s)) 0) refl
      where
        done : first_of (refusals t s) ≡ 0 → (step_of t s).answer.number ≡ 0
        done z = step-number t s ∙ z

        go : (x : Bool) → eqb (first_of (refusals t s)) 0 ≡ x → (sub_at (cond x (plan_of t (call_in s)) (nothing t)).rest m.0).holder.0 ≡ holder_of t m
        go true e =
            let z : (step_of t s).answer.number ≡ 0 = done (eqb-true (first_of (refusals t s)) 0 e) in
            call-holds t m (call_in s) (λ c. a (record { accepted = z; call = c })) (λ c. b (record { accepted = z; call = c }))
        go false e = refl

    one-at-a-time : OneAtATime t s m
    one-at-a-time = record { enters = enters; leaves = λ d. (only-holder d, handed d ∙ first-of (line_of old)); stays = unmoved }

    -- the first of the line: by priority, then by place; it enters
    handed-on : Does t s (call.Exit m) → (xs : List TaskNo) → line_of old ≡ xs → 0 < length xs → HandedOver t s m (head_of xs).0
    unfolding plan_of exit_plan waking puts
    handed-on d [] e h = absurd (omega arith)
    handed-on d (k ∷ xs) e h =
        let q = rw e at o.waiters in
        let i = head-is (waits_for m.0) t.tasks k xs refl q in
        let p : Picks (waits_for m.0) t.tasks (k ∷ xs) k.0 = picks (waits_for m.0) t.tasks refl (k ∷ xs) q in
        record {
          next = record {
            waits = sub-named m _ i.is-of;
            highest = λ j y. p.highest j (sub-kind m _ y);
            first = λ j y _ n. rw e (p.first j (sub-kind m _ y) n);
          };
          ready = rw (step-tasks, planned (call.Exit m) d, e, not-zero k.0 i.names.0, at_same t.tasks k.0 (with_state Ready (task_at t.tasks k.0)) i.names) refl;
        }

    handed-over : Does t s (call.Exit m) → 0 < old.waiting → HandedOver t s m (holder_of u m)
    handed-over d h = rw (handed d) (handed-on d (line_of old) refl (omega (arith, line-waiting old o.neat)))

-- ---- of any table, and so after any history
module _ (t : Table) (w : WellFormedByPart t) (m : SubNo) where
  rule : SubOk t.tasks m.0 (sub_at t.rest m.0)
  rule = w.lined.each m.0

  awake : holder_of t m ≢ 0 → (task_at t.tasks (holder_of t m)).state ≢ Dormant
  awake h z = absurd (omega (arith, rule.busy (omega (arith, h)), dormant-kind _ z))

  lined : (k : ℕ) → Waits t m k → Lined t m k
  unfolding items count
  lined k y =
      let c : count k (waiters_of t m) ≡ 1 = rule.waiters.exact k ∙ sub-kind m _ y in
      record { once = c; held = λ z. absurd (omega (arith, c, gone z)) }
    where
      gone : holder_of t m ≡ 0 → count k (waiters_of t m) ≡ 0
      gone z = rw (rule.free z) refl

pub sub_law : SubLaw
unfolding behind pad task_at put_at enter_at entered depart enter_in_flight enter_all_in_flight apply_in_flight waking exit_plan up_to all_of sum_of numbers_right falls exact_at queue_right times_right started_right masks_right busy_right waiters_at waiters_right dormant_right pool_right subs_from subs_right all_but_queue is_well_formed kind_of read_as read_of plan_of nobody_active bad_body holds_it holds_not holds_any names_caller alarm_running pool_full ends_time refusals first_of marks_of accepted step_of after sensor items levels_of emptied_at mail_at messages_right letters_fall mail_full
sub_law = record {
  handed-over = λ t s m w b d h. handed-over t s w b m d h;
  one-at-a-time = λ t s m w b. one-at-a-time t s w b m;
  never-dormant = λ t ss m w b. awake (after t ss) (formed (kept t ss w b)) m;
  never-lost = λ t ss m k w b. lined (after t ss) (formed (kept t ss w b)) m k;
  records = λ m. (refl, refl);
  met = (refl, refl);
}
