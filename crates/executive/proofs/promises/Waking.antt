-- Whom a tick wakes, and in which order.
use Prim.Native.Nat.{ℕ}
use mathlib.Core.Path.{◌≡◌, refl, ap, sym, ◌∙◌}
use mathlib.Core.Logic.{⊎_elim}
use mathlib.Core.Bool.{Bool, true, false, ◌&&◌}
use mathlib.Core.List.{List, [], ◌∷◌, map}
use native.Mathlib.Omega.{arith}
use borrow.Author.Tests.{eq-eqb}
use lib.Dec.{leb}
use Rattle.records.specs.Firsts.{first_of}
use Rattle.records.specs.Kinds.{kind_of}
use Rattle.records.specs.Reading.{read_as, read_of}
use Rattle.records.specs.declared.TaskNo.{TaskNo}
use Rattle.executive.specs.declared.Task.{Task}
use Rattle.executive.specs.declared.Table.{Table}
use Rattle.executive.specs.Lists.{one, pad, sum_of, up_to, all_of, each}
use Rattle.executive.specs.Queue.{behind}
use Rattle.executive.specs.Places.{task_at, put_at, times_in}
use Rattle.executive.specs.Pool.{place_of}
use Rattle.executive.specs.Flags.{is_set}
use Rattle.executive.specs.States.{time_of, has_time}
use Rattle.executive.specs.Table.{Join, enter_at, departed, entered, depart, enter_in_flight, enter_all_in_flight, apply_in_flight, items, levels_of}
use Rattle.executive.specs.Clock.{interval, rung, advanced}
use Rattle.executive.specs.Plans.{state_at, holds, time_up, passing, raisings, put_by_time, by_time, timed, pause_plan, tick_plan}
use Rattle.executive.specs.Messages.{mail_at}
use Rattle.executive.specs.Check.{emptied_at, messages_right, letters_fall}
use Rattle.executive.specs.Check.{is_well_formed, all_but_queue, numbers_right, falls, exact_at, queue_right, times_right, started_right, masks_right, busy_right, waiters_at, waiters_right, dormant_right, pool_right, subs_from, subs_right}
use Rattle.executive.specs.Sheet.{plan_of, marks_of}
use Rattle.executive.specs.Subprograms.{holds_any_of}
use Rattle.executive.specs.Refusals.{nobody_active, bad_body, holds_it, holds_not, holds_any, names_caller, alarm_running, pool_full, mail_full, ends_time, refusals}
use Rattle.executive.specs.Step.{accepted, refused, step_of}
use Rattle.executive.specs.Configuration.{tasks_from, tasks_in, configuration_in, task_right, is_configuration, sleepers, dormant_table, marked_start, starters, fresh_table, fresh_of}
use Rattle.executive.specs.Promises.Demands.{plan_of_record, after}
use Rattle.executive.specs.Promises.Cards.{tick}
use Rattle.executive.specs.Promises.Waking.{woken_by, TimeUp, Holds, Exact, Before, earlier, same-time, timed-first, by_number, Ordered, Waking}
use Rattle.executive.proofs.Lists.Tests.{false_not_true}
use Rattle.executive.proofs.step.FirstThatHolds.{step-number}
use Rattle.executive.proofs.Plans.Rising.{raisings-append}
use Rattle.executive.proofs.waking.Over.{over-either, time-no_hold}
use Rattle.executive.proofs.waking.Numbers.{passing-counts, sorted-counts, woken, woken-counts}
use Rattle.executive.proofs.waking.InOrder.{All, all_map, all_pass, Chain, chain_map, chain_append, chain_places, places_chain, one-order, passing-ascends, Sooner, sorted}

-- ---- the tick's plan names those who are woken
named : (ks : List TaskNo) → map (λ (j : Join). j.who) (raisings ks) ≡ ks
unfolding raisings
named [] = refl
named (k ∷ ks) = ap (λ (l : List TaskNo). k ∷ l) (named ks)

module _ (t : Table) where
  abbrev now : ℕ
  now = (advanced t.rest).clock.0

  abbrev flags : ℕ
  flags = (advanced t.rest).flags

  woken-are : (step_of t tick).answer.number ≡ 0 → woken_by t ≡ woken now flags t.tasks
  unfolding plan_of_record plan_of read_of read_as kind_of tick_plan
  woken-are e =
      rw (eq-eqb (first_of (refusals t tick)) 0 (sym (step-number t tick) ∙ e))
      (ap (map (λ (j : Join). j.who)) (sym (raisings-append (timed now t.tasks) (passing (holds flags) 1 t.tasks))) ∙ named (woken now flags t.tasks))

  exact : (step_of t tick).answer.number ≡ 0 → Exact t (woken_by t)
  exact e k =
      ap (times_in k) (woken-are e) ∙ woken-counts now flags t.tasks k
      ∙ ap one (sym (over-either now flags (task_at t.tasks k).state))

  -- ---- the order
  all-timed : All (TimeUp t) (timed now t.tasks)
  unfolding timed
  all-timed =
      all_pass (λ (k : ℕ). time_up now (task_at t.tasks k).state) (by_time t.tasks (passing (time_up now) 1 t.tasks))
      (λ k. sorted-counts t.tasks k (passing (time_up now) 1 t.tasks) ∙ passing-counts (time_up now) refl t.tasks k)

  all_held : All (Holds t) (passing (holds flags) 1 t.tasks)
  all_held = all_pass (λ (k : ℕ). holds flags (task_at t.tasks k).state) (passing (holds flags) 1 t.tasks) (passing-counts (holds flags) refl t.tasks)

  by-time : (a b : TaskNo) → Sooner t.tasks a b → TimeUp t a → TimeUp t b → Before t a b
  by-time a b s x y = ⊎_elim (λ h. earlier x y h) (λ h. same-time x y h.0 h.1) s

  in_order : Chain (Before t) (woken now flags t.tasks)
  unfolding timed
  in_order =
      let ts : List Task = t.tasks in
      let hs : List TaskNo = passing (holds flags) 1 ts in
      chain_append (Before t) (timed now ts) hs
      (chain_map by-time (timed now ts) (sorted ts (passing (time_up now) 1 ts) (passing-ascends (time_up now) ts 1)) all-timed)
      (chain_map (λ a b l x y. by_number x y l) hs (passing-ascends (holds flags) ts 1) all_held)
      (all_map (λ x u. all_map (λ y v. timed-first u v) hs all_held) (timed now ts) all-timed)

  order : (step_of t tick).answer.number ≡ 0 → Ordered t (woken_by t)
  order e = rw (woken-are e) (chain_places (Before t) (woken now flags t.tasks) in_order)

  -- ---- there is one such list: nobody waits for both, and no two go ahead of each other
  not-both : (k : TaskNo) → TimeUp t k → Holds t k → ⊥
  not-both k u h = false_not_true (sym (time-no_hold flags (state_at t k) (time (has_time (state_at t k)) u)) ∙ h)
    where
      time : (b : Bool) → b && leb (time_of (state_at t k)).0 now ≡ true → b ≡ true
      time true e = refl
      time false e = false_not_true e

  asym : (a b : TaskNo) → Before t a b → Before t b a → ⊥
  asym a b (earlier x y l) (earlier u v m) = omega arith
  asym a b (earlier x y l) (same-time u v e m) = omega arith
  asym a b (earlier x y l) (timed-first u v) = not-both a x v
  asym a b (earlier x y l) (by_number u v m) = not-both a x v
  asym a b (same-time x y d l) (earlier u v m) = omega arith
  asym a b (same-time x y d l) (same-time u v e m) = omega arith
  asym a b (same-time x y d l) (timed-first u v) = not-both a x v
  asym a b (same-time x y d l) (by_number u v m) = not-both a x v
  asym a b (timed-first x y) (earlier u v m) = not-both b u y
  asym a b (timed-first x y) (same-time u v e m) = not-both b u y
  asym a b (timed-first x y) (timed-first u v) = not-both b u y
  asym a b (timed-first x y) (by_number u v m) = not-both a x v
  asym a b (by_number x y l) (earlier u v m) = not-both a v x
  asym a b (by_number x y l) (same-time u v e m) = not-both a v x
  asym a b (by_number x y l) (timed-first u v) = not-both b u y
  asym a b (by_number x y l) (by_number u v m) = omega arith

  only : (xs ys : List TaskNo) → Exact t xs → Ordered t xs → Exact t ys → Ordered t ys → xs ≡ ys
  only xs ys e c f d = one-order asym xs ys (λ k. e k ∙ sym (f k)) (places_chain (Before t) xs c) (places_chain (Before t) ys d)

pub waking : Waking
unfolding tasks_from tasks_in configuration_in kind_of read_as read_of behind pad task_at put_at enter_at departed entered depart enter_in_flight enter_all_in_flight apply_in_flight interval place_of is_set each rung advanced pause_plan passing raisings put_by_time by_time timed tick_plan up_to all_of sum_of numbers_right falls exact_at queue_right times_right started_right masks_right busy_right waiters_at waiters_right dormant_right pool_right subs_from subs_right all_but_queue is_well_formed plan_of nobody_active bad_body holds_any_of holds_it holds_not holds_any names_caller alarm_running pool_full mail_full ends_time refusals first_of marks_of accepted refused step_of task_right is_configuration sleepers dormant_table marked_start starters fresh_table fresh_of after plan_of_record items levels_of emptied_at mail_at messages_right letters_fall
waking = record { exact = exact; order = order; only = only; example = (refl, refl) }
