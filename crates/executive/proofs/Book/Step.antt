-- What a step does to the pool, and which run begins by it: one lemma for all kinds. Of the files on the book of
-- starts this one alone rests on the plans.
use mathlib.Core.Path.{◌≡◌, refl, sym, ap, ◌∙◌}
use mathlib.Core.Bool.{Bool, true, false, cond}
use mathlib.Core.List.{List, [], ◌∷◌, ◌++◌, append-nil}
use Prim.Native.Nat.{ℕ, suc, ◌≤◌, ◌<◌}
use native.Mathlib.Omega.{arith}
use borrow.Author.Tests.{ltb-true, ltb-false, eqb-true, eqb-false, eq-eqb}
use lib.Dec.{ltb, eqb}
use lib.ListN.{length, get_or, drop_of_length-le}
use lib.Seq.{take_all}
use Rattle.records.specs.Firsts.{first_of}
use Rattle.records.specs.declared.TaskNo.{TaskNo}
use Rattle.records.specs.declared.Call.{Call}
use Rattle.records.specs.declared.Call.TheVariants as call
use Rattle.records.specs.Numbers.{Bytes}
use Rattle.executive.specs.declared.State.{State}
use Rattle.executive.specs.declared.State.TheVariants.{Dormant, Ready}
use Rattle.executive.specs.declared.Task.{Task}
use Rattle.executive.specs.declared.Request.{Request}
use Rattle.executive.specs.declared.Table.{Table}
use Rattle.executive.specs.Lists.{one}
use Rattle.executive.specs.Places.{no_request, task_at}
use Rattle.executive.specs.Pool.{requests, place_of, removed, with_requests}
use Rattle.executive.specs.Table.{leaves, Plan, apply, change-at}
use Rattle.executive.specs.Entries.{with_state, as_dormant}
use Rattle.executive.specs.Plans.{caller, state_at, waking, end_waiter, begins, terminate_plan, restart_plan, pause_plan, cancel_pause_plan, wait_of, at_once, out_of, start_now_plan, queue_request_plan, start_if_dormant_plan, request_of, start_or_queue_plan, set_plan, reset_plan, flag_plan, wait_plan, alarm_plan, tick_plan, enter_plan, exit_plan}
use Rattle.executive.specs.Messages.{no_mail, letters, first_fit, with_mail}
use Rattle.executive.specs.Plans.{send_plan, receive_plan}
use Rattle.executive.specs.Subprograms.{sub_at, is_held}
use Rattle.executive.specs.Flags.{met, mode_of}
use Rattle.executive.specs.States.{dormant, is, is_dormant, is_paused, takes}
use Rattle.executive.specs.WellFormed.{targets_of, WellFormed}
use Rattle.executive.specs.Sheet.{plan_of}
use Rattle.executive.specs.Refusals.{call_in, call_refusals, refusals}
use Rattle.executive.specs.Step.{step_of}
use Rattle.executive.specs.Promises.Demands.{plan_of_record}
use Rattle.executive.specs.Promises.EveryStart.{entry, Turn, other, starts, waits, ends, turn_of, turn_in, Begun}
use Rattle.executive.proofs.Lists.Pad.{line-pad}
use Rattle.executive.proofs.Plans.Moves.{MovesAreLegal}
use Rattle.executive.proofs.places.TaskAt.{at_same, at_other}
use Rattle.executive.proofs.Plans.WorkingForm.{formed}
use Rattle.executive.proofs.Plans.GoodIsKept.{puts}
use Rattle.executive.proofs.Plans.Links.{place-target}
use Rattle.executive.proofs.Plans.Shared.{Runs, runs}
use Rattle.executive.proofs.Plans.Tick.{advanced-alone}
use Rattle.executive.proofs.refusals.NothingRefuses.{end_owed}
use Rattle.executive.proofs.step.StepIsPlan.{picked, call-allowed, step_is}
use Rattle.executive.proofs.step.FirstThatHolds.{allowed, refusal-keeps}
use Rattle.executive.proofs.step.OthersStay.{plan-tasks}
use Rattle.executive.proofs.Book.Entered.{names_so, begins_so}

-- ---- from a table with the pool rs to the table u: a start begins at once, for a task that no request waits for
pub record Starting (rs : List Request) (u : Table) (r : Request) : Type 0 where
  pub pool : requests u.rest ≡ rs
  pub none : targets_of r.target.0 rs ≡ 0
  pub run : Begun u (entry 0 r)

-- the run of task k ends: its earliest request leaves the pool and begins, or it is dormant
pub record Ending (rs : List Request) (u : Table) (k : ℕ) : Type 0 where
  pub pool : requests u.rest ≡ removed (place_of k rs) rs
  pub named : place_of k rs < length rs → (get_or rs (place_of k rs) no_request).target.0 ≡ k
  pub run : place_of k rs < length rs → Begun u (entry 0 (get_or rs (place_of k rs) no_request))
  pub still : length rs ≤ place_of k rs → (task_at u.tasks k).state ≡ Dormant

-- what each turn of the book is in the table
abbrev pub Does : List Request → Table → Turn → Type 0
Does rs u other = requests u.rest ≡ rs
Does rs u (starts r) = Starting rs u r
Does rs u (waits r) = requests u.rest ≡ rs ++ (r ∷ [])
Does rs u (ends k) = Ending rs u k

pub dormant-is : (s : State) → is dormant s ≡ one (is_dormant s)
dormant-is s = refl

module _ (t : Table) (w : WellFormed t) where
  abbrev rs : List Request
  rs = requests t.rest

  abbrev c : TaskNo
  c = caller t

  -- ---- 05
  ask_does : (o : ℕ) (k : TaskNo) (a : ℕ) → MovesAreLegal (start_or_queue_plan t o k a) t → Does rs (apply (start_or_queue_plan t o k a) t) (turn_of t (call.StartOrQueue o k a))
  unfolding start_or_queue_plan request_of start_now_plan queue_request_plan turn_of apply
  ask_does o k a s = go (is_dormant (state_at t k)) refl s
    where
      r : Request
      r = request_of t o k a

      go : (b : Bool) → is_dormant (state_at t k) ≡ b → MovesAreLegal (cond b (start_now_plan t r (wait_of o)) (queue_request_plan t r (wait_of o))) t
          → Does rs (apply (cond b (start_now_plan t r (wait_of o)) (queue_request_plan t r (wait_of o))) t) (cond b (starts r) (waits r))
      go true e s = record {
        pool = refl;
        none = (formed w).links.busy k.0 (names_so (out_of (at_once (wait_of o))) [] [] r k t.rest t refl s).0 (dormant-is (state_at t k) ∙ ap one e);
        run = begins_so (out_of (at_once (wait_of o))) [] [] r k t.rest t refl s;
      }
      go false e s = line-pad no_request 32 (rs ++ (r ∷ []))

  -- ---- 00: where nothing is queued for the caller, it is dormant, and its end-waiter is another
  abbrev i : ℕ
  i = place_of c.0 rs

  abbrev stop : Plan
  stop = record { out = leaves as_dormant; ins = waking (end_waiter t c); rest = with_mail c.0 no_mail t.rest }

  sleeps : 0 < t.ready → (task_at (apply stop t).tasks c.0).state ≡ Dormant
  unfolding puts waking
  sleeps h = rw (plan-tasks stop t) (go (eqb (end_waiter t c).0 0))
    where
      x : Runs t.tasks c.0
      x = runs t (formed w) h

      ts : List Task
      ts = change-at t.tasks c.0 as_dormant

      asleep : (task_at ts c.0).state ≡ Dormant
      asleep = ap (λ (e : Task). e.state) (at_same t.tasks c.0 (as_dormant (task_at t.tasks c.0)) x.names)

      go : (b : Bool) → (task_at (puts (cond b [] (record { who = end_waiter t c; change = with_state Ready } ∷ [])) ts) c.0).state ≡ Dormant
      go true = asleep
      go false =
          let z : eqb c.0 (end_waiter t c).0 ≡ false = (formed w).links.apart c.0 x.names.0 in
          ap (λ (e : Task). e.state) (at_other ts (end_waiter t c).0 c.0 (with_state Ready (task_at ts (end_waiter t c).0)) z) ∙ asleep

  all_left : length rs ≤ i → removed i rs ≡ rs
  all_left h = simp (take_all i rs h, drop_of_length-le rs {i = suc i} (omega arith), append-nil)

  end_does : 0 < t.ready → MovesAreLegal (terminate_plan t) t → Ending rs (apply (terminate_plan t) t) c.0
  unfolding terminate_plan apply
  end_does h s = go (ltb i (length rs)) refl s
    where
      q : Request
      q = get_or rs i no_request

      run : Plan
      run = record {
        out = leaves as_dormant;
        ins = waking (end_waiter t c) ++ (begins c q t.rest.clock ∷ waking q.start_waiter);
        rest = with_mail c.0 no_mail (with_requests (removed i rs) t.rest);
      }

      go : (b : Bool) → ltb i (length rs) ≡ b → MovesAreLegal (cond b run stop) t → Ending rs (apply (cond b run stop) t) c.0
      go true e s = record {
        pool = line-pad no_request 32 (removed i rs);
        named = place-target c.0 rs;
        run = λ l. begins_so (leaves as_dormant) (waking (end_waiter t c)) (waking q.start_waiter) q c run.rest t (place-target c.0 rs l) s;
        still = λ l. absurd (omega (arith, ltb-true i (length rs) e));
      }
      go false e s = record {
        pool = sym (all_left (ltb-false i (length rs) e));
        named = place-target c.0 rs;
        run = λ l. absurd (omega (arith, ltb-false i (length rs) e));
        still = λ _. sleeps h;
      }

  -- ---- every other kind leaves the pool as it is; 01 is among them: a queued start outlives a restart
  either : (b : Bool) (p q : Plan) → requests p.rest ≡ rs → requests q.rest ≡ rs → requests (cond b p q).rest ≡ rs
  either b p q x y = picked (λ (p : Plan). requests p.rest) b p q rs x y

  call_does : (c : Call) → first_of (call_refusals t c) ≡ 0 → MovesAreLegal (plan_of t c) t → Does rs (apply (plan_of t c) t) (turn_of t c)
  unfolding plan_of turn_of apply restart_plan pause_plan cancel_pause_plan start_if_dormant_plan start_now_plan flag_plan reset_plan set_plan wait_plan alarm_plan tick_plan enter_plan exit_plan send_plan receive_plan
  call_does call.Terminate z s = end_does (end_owed t w z).1 s
  call_does (call.Restart p n) z s = refl
  call_does (call.Pause u n) z s = either (eqb n 0) _ _ refl refl
  call_does (call.CancelPause k) z s = either (is_paused (state_at t k)) _ _ refl refl
  call_does (call.StartIfDormant o k) z s = either (is_dormant (state_at t k)) _ _ refl refl
  call_does (call.StartOrQueue o k a) z s = ask_does o k a s
  call_does (call.Flag o f) z s = either (eqb o 0) _ _ refl (either (eqb o 1) _ _ refl refl)
  call_does (call.Wait m mask) z s = either (met t.rest.flags (mode_of m) mask) _ _ refl refl
  call_does (call.Alarm u n f) z s = either (eqb n 0) _ _ refl refl
  call_does call.Tick z s = advanced-alone requests (λ r fs al. refl) t.rest
  call_does (call.Granule g) z s = refl
  call_does (call.Task p m) z s = refl
  call_does call.End z s = refl
  call_does (call.Enter m) z s = either (is_held (sub_at t.rest m.0)) _ _ refl refl
  call_does (call.Exit m) z s = refl
  call_does (call.Send k x) z s = either (takes (caller t).0 (state_at t k)) _ _ refl refl
  call_does (call.Receive s) z m = either (ltb (first_fit (caller t).0 s.0 (letters t.rest)) (length (letters t.rest))) _ _ refl refl

-- ---- the step
pub planned_so : (t : Table) (s : List ℕ) → (step_of t s).answer.number ≡ 0 → plan_of_record t s ≡ plan_of t (call_in s)
unfolding plan_of_record
planned_so t s e = rw (eq-eqb (first_of (refusals t s)) 0 (allowed t s e)) refl

pub step_does : (t : Table) (s : List ℕ) → WellFormed t → Bytes s → Does (requests t.rest) (step_of t s).table (turn_in t s)
unfolding turn_in
step_does t s w b = go (eqb (step_of t s).answer.number 0) refl
  where
    n : ℕ
    n = (step_of t s).answer.number

    go : (b : Bool) → eqb n 0 ≡ b → Does (requests t.rest) (step_of t s).table (cond b (turn_of t (call_in s)) other)
    go true e =
        let z : n ≡ 0 = eqb-true n 0 e in
        let x = step_is t s w b in
        let p : plan_of_record t s ≡ plan_of t (call_in s) = planned_so t s z in
        let d : MovesAreLegal (plan_of t (call_in s)) t = rw p at x.kept.sound in
        rw (x.table, p) (call_does t w (call_in s) (call-allowed t s (allowed t s z)) d)
    go false e = ap (λ (u : Table). requests u.rest) (refusal-keeps t s (eqb-false n 0 e))
