-- The step is its plan, and the plan is good: for a call that was read, and for a record's bytes.
use mathlib.Core.Path.{◌≡◌, refl, sym, ap, ◌∙◌}
use mathlib.Core.Bool.{Bool, true, false, not, cond}
use mathlib.Core.List.{List, []}
use Prim.Native.Nat.{ℕ, ◌/◌, ◌%◌, ◌≤◌, ◌<◌}
use native.Mathlib.Omega.{arith}
use borrow.Author.Tests.{eqb-true, eqb-false, ltb-false, leb-false}
use lib.Dec.{leb, ltb, eqb}
use Rattle.records.specs.Firsts.{first_of}
use Rattle.records.specs.declared.TaskNo.{TaskNo}
use Rattle.records.specs.declared.FlagNo.{FlagNo}
use Rattle.records.specs.declared.Call.{Call}
use Rattle.records.specs.declared.Call.TheVariants as call
use Rattle.records.specs.Calls.{InRange, GotInRange}
use Rattle.records.specs.Numbers.{Bytes}
use Rattle.records.specs.Reading.{read_of}
use Rattle.records.proofs.Assured.{promises}
use Rattle.executive.specs.Numbers.{last_unit, last_sub}
use Rattle.executive.specs.declared.Table.{Table}
use Rattle.executive.specs.declared.Outcome.{Outcome}
use Rattle.executive.specs.Lists.{◌and◌}
use Rattle.executive.specs.Places.{task_at}
use Rattle.executive.specs.Table.{line, head_of, Out, Plan, depart, joins, apply}
use Rattle.executive.specs.States.{is_dormant, takes}
use Rattle.executive.specs.Plans.{caller, state_at, nothing, pause_plan, alarm_plan}
use Rattle.executive.specs.WellFormed.{WellFormed}
use Rattle.executive.specs.Sheet.{plan_of, no_such_task, marks}
use Rattle.executive.specs.Refusals.{nobody_active, bad_body, holds_any, names_caller, pool_full, mail_full, ends_time, call_refusals, refusals, called_by, call_in}
use Rattle.executive.specs.Step.{no_table, answer_of, has_v, accepted, refused, outcome_of, step_of}
use Rattle.executive.specs.Promises.Demands.{plan_for, plan_of_record}
use Rattle.executive.proofs.Lists.Tests.{false_not_true}
use Rattle.executive.proofs.refusals.NothingRefuses.{Clear, clear_of, first-none, or-none}
use Rattle.executive.proofs.Plans.WorkingForm.{WellFormedByPart, formed, well_formed}
use Rattle.executive.proofs.Plans.GoodIsKept.{out_ready, Good, GoodOutcome, JoinsKeep, plan_in_flight, moves-kept, apply-kept}
use Rattle.executive.proofs.Plans.Shared.{nothing-good, runs}
use Rattle.executive.proofs.Plans.SubsKept.{holds-none}
use Rattle.executive.proofs.Plans.Pause.{pause-good}
use Rattle.executive.proofs.Plans.Terminate.{terminate-good}
use Rattle.executive.proofs.Plans.Restart.{restart-good, restart-room}
use Rattle.executive.proofs.Plans.CancelPause.{cancel_good}
use Rattle.executive.proofs.Plans.StartIfDormant.{start-only-good}
use Rattle.executive.proofs.Plans.StartOrQueue.{ask-good}
use Rattle.executive.proofs.Plans.Flag.{set-good, flag-good}
use Rattle.executive.proofs.Plans.Wait.{wait_good}
use Rattle.executive.proofs.Plans.Alarm.{alarm-good}
use Rattle.executive.proofs.Plans.Tick.{tick-good}
use Rattle.executive.proofs.Plans.Enter.{enter-good}
use Rattle.executive.proofs.Plans.Exit.{exit_good}
use Rattle.executive.proofs.Plans.Send.{send-good}
use Rattle.executive.proofs.Plans.Receive.{receive-good}
use Rattle.std.specs.Prelude.{Ok, Err}
use Rattle.records.specs.Refusals.{Got}

and-other : (a b : Bool) → a and b ≡ false → a ≡ true → b ≡ false
and-other true b e f = e
and-other false b e f = false_not_true f

-- a call that names a task, and is not refused, names one of the count
such : (t : Table) (k : TaskNo) → no_such_task t.rest k ≡ false → (0 < k.0) × (k.0 ≤ t.rest.count)
such t k e =
    let o = or-none (eqb k.0 0) (ltb t.rest.count k.0) e in
    (omega (arith, eqb-false k.0 0 o.0), ltb-false t.rest.count k.0 o.1)

some-ready : (t : Table) → eqb t.ready 0 ≡ false → 0 < t.ready
some-ready t e = omega (arith, eqb-false t.ready 0 e)

-- ---- a call that nothing refuses: there is room for all who enter, and its plan is good. For room the widths of its
-- numbers do not matter; what is stored is in range where the count of an interval is that of a byte
module _ (t : Table) (w : WellFormedByPart t) where
  abbrev Roomy : Plan → Type 0
  Roomy p = JoinsKeep p.ins (depart p.out t)

  record Sound (c : Call) : Type 0 where
    pub room : Roomy (plan_of t c)
    pub good : InRange c → Good (plan_of t c) t

  sized : (p : Plan) → Good p t → Roomy p
  sized p g = moves-kept p.out p.ins t w g.leaving g.joining

  sound : (c : Call) → Good (plan_of t c) t → Sound c
  sound c g = record { room = sized (plan_of t c) g; good = λ r. g }

  -- where nobody enters; whichever plan is picked
  alone : (o : Out) → out_ready o (task_at t.tasks (head_of (line t)).0) ≡ 0 → JoinsKeep [] (depart o t)
  alone o z = moves-kept o [] t w z tt

  either : (b : Bool) (p q : Plan) → Roomy p → Roomy q → Roomy (cond b p q)
  either true p q x y = x
  either false p q x y = y

  pause-room : (u n : ℕ) → Roomy (pause_plan t u n)
  unfolding pause_plan
  pause-room u n = either (eqb n 0) _ _ (alone _ refl) (alone _ refl)

  alarm-room : (u n : ℕ) (f : FlagNo) → Roomy (alarm_plan t u n f)
  unfolding alarm_plan
  alarm-room u n f = either (eqb n 0) _ _ (sized _ (set-good t w f)) (alone _ refl)

  call-sound : (c : Call) → Clear t c → Sound c
  unfolding plan_of nobody_active bad_body holds_any names_caller pool_full mail_full ends_time
  call-sound call.Terminate a =
      let h = some-ready t a.active in
      sound _ (terminate-good t w h (holds-none _ t.rest.subs (runs t w h).names.0 a.holding))
  call-sound (call.Restart p n) a =
      let h = some-ready t a.active in
      record { room = restart-room t w h p n; good = λ r. restart-good t w h p n r.1.0 }
  call-sound (call.Pause u n) a = record {
    room = pause-room u n;
    good = λ r. pause-good t u n w (some-ready t a.active) (omega (arith, ltb-false last_unit u a.body)) r.1.0;
  }
  call-sound (call.CancelPause k) a = sound _ (cancel_good t w k)
  call-sound (call.StartIfDormant o k) a =
      let s = such t k (or-none (no_such_task t.rest k) (not (eqb (o / 16 % 8) 0)) a.body).0 in
      sound _ (start-only-good t w (some-ready t a.active) o k s.0 s.1)
  call-sound (call.StartOrQueue o k x) a =
      let s = such t k (or-none (no_such_task t.rest k) (eqb (o / 32 % 4) 3) a.body).0 in
      sound _
      (ask-good t w (some-ready t a.active) o k s.0 s.1 x a.another
      (λ b. leb-false 32 t.rest.queued (and-other (not (is_dormant (state_at t k))) (leb 32 t.rest.queued) a.room (ap not b))))
  call-sound (call.Flag o f) a = sound _ (flag-good t w o f)
  call-sound (call.Wait m mask) a = sound _ (wait_good t w (some-ready t a.active) m mask (or-none (ltb 1 m) (eqb mask 0) a.body).1)
  call-sound (call.Alarm u n f) a = record {
    room = alarm-room u n f;
    good = λ r. alarm-good t w u n f (omega (arith, ltb-false last_unit u (or-none (ltb last_unit u) (ltb 31 f.0) a.body).0)) r.1.0;
  }
  call-sound call.Tick a = sound _ (tick-good t w (ltb-false _ _ a.time))
  call-sound (call.Granule g) a = sound _ (nothing-good t w)
  call-sound (call.Task p m) a = sound _ (nothing-good t w)
  call-sound call.End a = sound _ (nothing-good t w)
  call-sound (call.Enter m) a = sound _ (enter-good t w (some-ready t a.active) m (ltb-false last_sub m.0 a.body))
  call-sound (call.Exit m) a = sound _ (exit_good t w m (ltb-false last_sub m.0 a.body))
  call-sound (call.Send k x) a =
      let s = such t k a.body in
      sound _
      (send-good t w (some-ready t a.active) k x s.0 s.1
      (λ b. leb-false 32 t.rest.sent (and-other (not (takes (caller t).0 (state_at t k))) (leb 32 t.rest.sent) a.mail (ap not b))))
  call-sound (call.Receive s) a = sound _ (receive-good t w (some-ready t a.active) s (ltb-false t.rest.count s.0 a.body))

pub call-good : (t : Table) (c : Call) → WellFormedByPart t → InRange c → Clear t c → Good (plan_of t c) t
call-good t c w r a = (call-sound t w c a).good r

pub call-room : (t : Table) (c : Call) → WellFormed t → first_of (call_refusals t c) ≡ 0 → JoinsKeep (plan_of t c).ins (depart (plan_of t c).out t)
call-room t c w e = (call-sound t (formed w) c (clear_of t c e)).room

-- ---- an outcome is its plan
pub record Executes (t u : Table) (p : Plan) : Type 0 where
  pub table : u ≡ apply p t
  pub kept : GoodOutcome p t

-- a refused call leaves the word as it was, and that is the word of its queue
idle-plan : (t : Table) → WellFormedByPart t → apply (nothing t) t ≡ t
unfolding apply depart joins
idle-plan t w = λ i. record { tasks = t.tasks; queue = t.queue; ready = t.ready; levels = sym w.lit i; rest = t.rest }

-- whichever is picked, a reading that both agree in
pub picked : {A B : Type 0} (f : A → B) (b : Bool) (x y : A) (v : B) → f x ≡ v → f y ≡ v → f (cond b x y) ≡ v
picked f true x y v p q = p
picked f false x y v p q = q

pub refused-table : (t : Table) (n : ℕ) → (refused t n).table ≡ t
unfolding refused
refused-table t n = picked (λ (o : Outcome). o.table) (eqb n 1)
    (record { answer = no_table; table = t })
    (record { answer = answer_of n (marks false (has_v n) false) 0 t; table = t }) t refl refl

outcome_is : (t : Table) (n : ℕ) (c : Call) → WellFormedByPart t → (n ≡ 0 → Good (plan_of t c) t) → Executes t (outcome_of t n c).table (plan_for t n c)
unfolding accepted
outcome_is t n c w g = go (eqb n 0) refl
  where
    go : (b : Bool) → eqb n 0 ≡ b → Executes t (cond b (accepted t c) (refused t n)).table (cond b (plan_of t c) (nothing t))
    go true e = let k = apply-kept (plan_of t c) t w (g (eqb-true n 0 e)) in record { table = plan_in_flight (plan_of t c) t; kept = k }
    go false e = record { table = refused-table t n ∙ sym (idle-plan t w); kept = apply-kept (nothing t) t w (nothing-good t w) }

-- ---- a record's bytes: the call that is read from bytes fits its bytes
pub call_in_range : (s : List ℕ) → Bytes s → InRange (call_in s)
call_in_range s b = go (read_of s) (promises.read_in_range s b)
  where
    go : (g : Got) → GotInRange g → InRange (called_by g)
    go (Ok c) r = r
    go (Err n) r = tt

-- nothing refuses an accepted record's call
pub call-allowed : (t : Table) (s : List ℕ) → first_of (refusals t s) ≡ 0 → first_of (call_refusals t (call_in s)) ≡ 0
unfolding refusals
call-allowed t s e =
    let a = first-none 1 _ _ (omega arith) e in
    let b = first-none 3 _ _ (omega arith) a.1 in
    let c = first-none 4 _ _ (omega arith) b.1 in
    (first-none 3 _ _ (omega arith) c.1).1

pub step_is : (t : Table) (s : List ℕ) → WellFormed t → Bytes s → Executes t (step_of t s).table (plan_of_record t s)
unfolding step_of plan_of_record
step_is t s w b = outcome_is t (first_of (refusals t s)) (call_in s) (formed w)
    (λ e. call-good t (call_in s) (formed w) (call_in_range s b) (clear_of t (call_in s) (call-allowed t s e)))

pub step_kept : (t : Table) (s : List ℕ) → WellFormed t → Bytes s → WellFormed (step_of t s).table
step_kept t s w b = let x = step_is t s w b in rw x.table (well_formed (apply (plan_of_record t s) t) x.kept.formed)
