-- A restart that skips is due at the next time on its grid, and no other step passes over anything.
use Prim.Native.Nat.{ℕ, zero, suc, ◌+◌, ◌-◌, ◌*◌, ◌/◌, ◌%◌, ◌≤◌, ◌<◌}
use mathlib.Core.Path.{◌≡◌, refl, sym, ap, ◌∙◌}
use mathlib.Core.Bool.{Bool, true, false, cond}
use mathlib.Core.Logic.{◌↔◌, ◌≢◌}
use mathlib.Core.List.{List, [], ◌∷◌, ◌++◌}
use native.Mathlib.Nat.{div-add-mod', mod-lt, add-mul, mul-le-mul_right, le-div_iff_mul-le}
use native.Mathlib.Omega.{arith}
use borrow.Author.Tests.{eq-eqb, ne_eqb, le-ltb, lt-ltb, lt-leb, eqb-true, ltb-true, ltb-false}
use lib.Dec.{eqb, ltb}
use Rattle.records.specs.Firsts.{first_of}
use Rattle.records.specs.declared.Call.{Call}
use Rattle.records.specs.Kinds.{kind_of}
use Rattle.records.specs.Numbers.{Bytes}
use Rattle.records.specs.Reading.{read_as, read_of}
use Rattle.executive.specs.declared.Millis.{Millis}
use Rattle.executive.specs.declared.State.TheVariants.{Due}
use Rattle.executive.specs.declared.Outcome.{Outcome}
use Rattle.executive.specs.declared.Table.{Table}
use Rattle.executive.specs.Numbers.{last_unit}
use Rattle.executive.specs.Lists.{pad, sum_of, up_to, all_of, each}
use Rattle.executive.specs.Queue.{behind}
use Rattle.executive.specs.Places.{task_at, put_at}
use Rattle.executive.specs.Table.{items, apply_in_flight, apply, depart, Plan, Out, enter_at, departed, entered, enter_in_flight, enter_all_in_flight, levels_of}
use Rattle.executive.specs.Entries.{due_at}
use Rattle.executive.specs.Clock.{interval, missed, next_on_grid, skips_missed, aim_at, skipped_of, rung, advanced}
use Rattle.executive.specs.Plans.{caller, end_waiter, waking, restart_plan, terminate_plan, pause_plan, cancel_pause_plan, priority_of, wait_of, argument_of, start_now_plan, queue_request_plan, start_if_dormant_plan, request_of, start_or_queue_plan, passing, raisings, put_by_time, by_time, timed, set_plan, reset_plan, flag_plan, wait_plan, alarm_plan, tick_plan}
use Rattle.executive.specs.WellFormed.{WellFormed}
use Rattle.executive.specs.Messages.{mail_at}
use Rattle.executive.specs.Check.{emptied_at, messages_right, letters_fall}
use Rattle.executive.specs.Check.{is_well_formed, all_but_queue, numbers_right, falls, exact_at, queue_right, times_right, started_right, masks_right, busy_right, waiters_at, waiters_right, dormant_right, pool_right, subs_from, subs_right}
use Rattle.executive.specs.Sheet.{plan_of, marks_of, marks}
use Rattle.executive.specs.Subprograms.{holds_any_of}
use Rattle.executive.specs.Refusals.{nobody_active, bad_body, holds_it, holds_not, holds_any, names_caller, alarm_running, pool_full, mail_full, ends_time, refusals, call_in}
use Rattle.executive.specs.Step.{accepted, refused, outcome_of, step_of, no_table, answer_of, has_v}
use Rattle.executive.specs.Promises.Demands.{plan_of_record, after}
use Rattle.executive.specs.Promises.Skipping.{NextOnGrid, Skip, DueNext, Skips, Skipping}
use Rattle.executive.proofs.step.InWords.{tells}
use Rattle.executive.proofs.clock.Interval.{every_some, next-ahead}
use Rattle.executive.proofs.check.Decides.{well_formed-iff}
use Rattle.executive.proofs.Plans.WorkingForm.{formed}
use Rattle.executive.proofs.Plans.Moves.{out-tasks}
use Rattle.executive.proofs.Plans.GoodIsKept.{puts, joins-tasks}
use Rattle.executive.proofs.Plans.Shared.{puts-append}
use Rattle.executive.proofs.Plans.Restart.{still}
use Rattle.executive.proofs.refusals.NothingRefuses.{Clear}
use Rattle.executive.proofs.step.StepIsPlan.{step_is}
use Rattle.executive.proofs.step.FirstThatHolds.{number_is}
use Rattle.executive.specs.Configuration.{tasks_from, tasks_in, configuration_in, task_right, is_configuration, sleepers, dormant_table, marked_start, starters, fresh_table, fresh_of}
use Rattle.executive.specs.Pool.{place_of}
use Rattle.executive.specs.Flags.{is_set}
use Rattle.records.specs.declared.Call.TheVariants as call

-- ---- the grid
module _ (start now every : Millis) (h : start.0 ≤ now.0) (p : 0 < every.0) where
  abbrev k : ℕ
  k = missed start now every

  -- the last grid time that is passed over is at or before now, and the next is after it
  within : (start.0 + k * every.0 ≤ now.0) × (now.0 < start.0 + k * every.0 + every.0)
  unfolding missed
  within =
      let d = div-add-mod' (now.0 - start.0) every.0 in
      let l = mod-lt (now.0 - start.0) p in
      (omega arith, omega arith)

  after-k : (k + 1) * every.0 ≡ k * every.0 + every.0
  after-k = let m = add-mul k 1 every.0 in omega arith

  passed : (m : ℕ) → 1 ≤ m → (start.0 + m * every.0 ≤ now.0) ↔ (m ≤ k)
  unfolding missed
  passed m o = (
    λ l. (le-div_iff_mul-le p).1 (omega arith),
    λ l. let i : m * every.0 ≤ k * every.0 = mul-le-mul_right every.0 l in let v = within.0 in omega arith,
  )

  least : (m : ℕ) → 1 ≤ m → now.0 < start.0 + m * every.0 → start.0 + (k + 1) * every.0 ≤ start.0 + m * every.0
  least m o l =
      let n : m ≤ k → ⊥ = λ q. let r = (passed m o).1 q in omega arith in
      let i : (k + 1) * every.0 ≤ m * every.0 = mul-le-mul_right every.0 (go n) in
      omega arith
    where
      go : (m ≤ k → ⊥) → k + 1 ≤ m
      go n = omega arith

  pub grid : NextOnGrid start.0 now.0 every.0 (next_on_grid start now every).0 k
  unfolding next_on_grid
  grid = record { on-grid = refl; after = let a = after-k in let v = within.1 in omega arith; least = least; passed = passed }

only : (start now every a b j k : ℕ) → 0 < every → NextOnGrid start now every a j → NextOnGrid start now every b k → (a ≡ b) × (j ≡ k)
only start now every a b j k p x y =
    let e : j ≡ k = omega (arith, most j k x y, most k j y x) in
    (x.on-grid ∙ ap (λ (m : ℕ). start + (m + 1) * every) e ∙ sym y.on-grid, e)
  where
    most : {a b : ℕ} (j k : ℕ) → NextOnGrid start now every a j → NextOnGrid start now every b k → j ≤ k
    most zero k x y = omega arith
    most (suc j) k x y = (y.passed (suc j) (omega arith)).0 ((x.passed (suc j) (omega arith)).1 (omega arith))

-- ---- the step
skips_so : (p n : ℕ) → Skip p n → skips_missed p n ≡ true
skips_so p n s = rw (eq-eqb (p / 64 % 4) 1 s.bits, lt-ltb 0 n s.some) refl

module _ (start now : Millis) (p n : ℕ) (s : Skip p n) where
  aims-next : aim_at start now p n ≡ next_on_grid start now (interval (p % 8) n)
  unfolding aim_at
  aims-next = rw (le-ltb last_unit (p % 8) s.unit, skips_so p n s) refl

  tells-missed : skipped_of start now p n ≡ missed start now (interval (p % 8) n)
  unfolding skipped_of
  tells-missed = rw (le-ltb last_unit (p % 8) s.unit, skips_so p n s) refl

module _ (t : Table) (p n : ℕ) (w : WellFormed t) (h : 0 < t.ready) (f : holds_any_of (caller t) t.rest.subs ≡ false) (hp : p < 256) (hn : n < 256) (s : Skip p n) where
  abbrev bytes : List ℕ
  bytes = 0x01 ∷ p ∷ n ∷ []

  abbrev start : Millis
  start = (task_at t.tasks (caller t).0).start

  abbrev every : Millis
  every = interval (p % 8) n

  abbrev aim : Millis
  aim = aim_at start t.rest.clock p n

  all-bytes : Bytes bytes
  all-bytes zero = omega arith
  all-bytes (suc zero) = hp
  all-bytes (suc (suc zero)) = hn
  all-bytes (suc (suc (suc i))) = omega arith

  clear : Clear t (call.Restart p n)
  unfolding nobody_active bad_body holds_it holds_not holds_any names_caller pool_full mail_full ends_time
  clear = record {
    active = ne_eqb t.ready 0 (omega arith);
    body = ne_eqb (p / 64 % 4) 3 (omega (arith, s.bits));
    inside = refl;
    outside = refl;
    holding = f;
    another = refl;
    room = refl;
    mail = refl;
    time = refl;
  }

  allowed : first_of (refusals t bytes) ≡ 0
  unfolding refusals first_of read_of read_as kind_of nobody_active bad_body holds_it holds_not holds_any names_caller alarm_running pool_full mail_full ends_time
  allowed = rw ((well_formed-iff t).1 w, clear.active, clear.body, f) refl

  plan_of_call : plan_of_record t bytes ≡ restart_plan t p n
  unfolding plan_of_record plan_of read_of read_as kind_of
  plan_of_call = rw (eq-eqb (first_of (refusals t bytes)) 0 allowed) refl

  ahead : (t.rest.clock.0 < aim.0)
  ahead = rw (aims-next start t.rest.clock p n s) (next-ahead start t.rest.clock every (w.started (caller t).0) (every_some p n s.unit hn (skips_so p n s)).0).0

  tasks-after : (apply (restart_plan t p n) t).tasks ≡ puts (waking (end_waiter t (caller t))) (put_at t.tasks (caller t).0 (due_at aim (task_at t.tasks (caller t).0)))
  unfolding apply restart_plan puts
  tasks-after = rw (lt-leb aim.0 t.rest.clock.0 ahead)
      (joins-tasks (waking (end_waiter t (caller t)) ++ []) (depart (Out.leaves (due_at aim)) t)
      ∙ puts-append (waking (end_waiter t (caller t))) [] (depart (Out.leaves (due_at aim)) t).tasks
      ∙ ap (puts (waking (end_waiter t (caller t)))) (out-tasks (Out.leaves (due_at aim)) t))

  table-after : (step_of t bytes).table ≡ apply (restart_plan t p n) t
  table-after = (step_is t bytes w all-bytes).table ∙ ap (λ (q : Plan). apply q t) plan_of_call

  becomes_due : (task_at (step_of t bytes).table.tasks (caller t).0).state ≡ Due aim
  becomes_due = rw (table-after, tasks-after, still t (formed w) h aim) refl

  skipped-then : (step_of t bytes).answer.skipped ≡ missed start t.rest.clock every
  unfolding step_of accepted marks_of read_of read_as kind_of
  skipped-then = rw allowed (tells-missed start t.rest.clock p n s)

  number-then : (step_of t bytes).answer.number ≡ 0
  unfolding step_of accepted
  number-then = rw allowed refl

  next : DueNext t p n (step_of t bytes)
  next = record {
    accepted = number-then;
    aim = aim;
    due = becomes_due;
    next = rw (aims-next start t.rest.clock p n s, skipped-then)
        (grid start t.rest.clock every (w.started (caller t).0) (every_some p n s.unit hn (skips_so p n s)).0);
  }

-- ---- every other step
outcome_skipped : (t : Table) (n : ℕ) (c : Call) → (outcome_of t n c).answer.skipped ≢ 0 → (n ≡ 0) × ((marks_of t c).skipped ≢ 0)
unfolding accepted refused
outcome_skipped t n c = go (eqb n 0) refl (eqb n 1)
  where
    go : (a : Bool) → eqb n 0 ≡ a → (b : Bool)
        → (cond a (accepted t c) (cond {A = Outcome} b
        (record { answer = no_table; table = t })
        (record { answer = answer_of n (marks false (has_v n) false) 0 t; table = t }))).answer.skipped ≢ 0 → (n ≡ 0) × ((marks_of t c).skipped ≢ 0)
    go true e b z = (eqb-true n 0 e, z)
    go false e true z = absurd (z refl)
    go false e false z = absurd (z refl)

skip-of : (start now : Millis) (p n : ℕ) → skipped_of start now p n ≢ 0 → Skip p n
unfolding skipped_of
skip-of start now p n = go (ltb last_unit (p % 8)) refl (eqb (p / 64 % 4) 1) refl (ltb 0 n) refl
  where
    go : (a : Bool) → ltb last_unit (p % 8) ≡ a → (b : Bool) → eqb (p / 64 % 4) 1 ≡ b → (c : Bool) → ltb 0 n ≡ c
        → cond a 0 (cond (cond b c false) (missed start now (interval (p % 8) n)) 0) ≢ 0 → Skip p n
    go true e b f c g z = absurd (z refl)
    go false e false f c g z = absurd (z refl)
    go false e true f false g z = absurd (z refl)
    go false e true f true g z = record { bits = eqb-true (p / 64 % 4) 1 f; unit = ltb-false last_unit (p % 8) e; some = ltb-true 0 n g }

module _ (t : Table) (s : List ℕ) (a : (step_of t s).answer.number ≡ 0) where
  marks-skip : (marks_of t (call_in s)).skipped ≢ 0 → Skips t s
  unfolding marks_of
  marks-skip z =
      let r = (tells t (call_in s)).skips z in
      let y : (marks_of t (call.Restart r.parameter r.count)).skipped ≢ 0 = λ e. z (ap (λ (c : Call). (marks_of t c).skipped) r.call ∙ e) in
      record { accepted = a; parameter = r.parameter; count = r.count; restart = r.call; skip = skip-of (task_at t.tasks (caller t).0).start t.rest.clock r.parameter r.count y }

elsewhere : (t : Table) (s : List ℕ) → (step_of t s).answer.skipped ≢ 0 → Skips t s
unfolding step_of
elsewhere t s z =
    let o = outcome_skipped t (first_of (refusals t s)) (call_in s) z in
    marks-skip t s (number_is t (first_of (refusals t s)) (call_in s) ∙ o.0) o.1

pub skipping : Skipping
unfolding tasks_from tasks_in configuration_in kind_of read_as read_of behind pad task_at put_at enter_at departed entered depart enter_in_flight enter_all_in_flight apply_in_flight interval aim_at place_of is_set each rung advanced waking terminate_plan restart_plan pause_plan cancel_pause_plan priority_of wait_of argument_of start_now_plan queue_request_plan start_if_dormant_plan request_of start_or_queue_plan set_plan reset_plan flag_plan wait_plan alarm_plan tick_plan up_to all_of sum_of numbers_right falls exact_at queue_right times_right started_right masks_right busy_right waiters_at waiters_right dormant_right pool_right subs_from subs_right all_but_queue is_well_formed plan_of nobody_active bad_body holds_any_of holds_it holds_not holds_any names_caller alarm_running pool_full mail_full ends_time refusals first_of marks_of accepted refused step_of task_right is_configuration sleepers dormant_table marked_start starters fresh_table fresh_of after missed next_on_grid skipped_of passing raisings put_by_time by_time timed items levels_of emptied_at mail_at messages_right letters_fall
skipping = record {
  next = next;
  only = only;
  elsewhere = elsewhere;
  accident = (refl, refl, refl, refl, refl, refl);
}
