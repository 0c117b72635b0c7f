-- The worked history, computed.
use mathlib.Core.Path.{refl}
use Rattle.records.specs.Firsts.{first_of}
use Rattle.records.specs.Kinds.{kind_of}
use Rattle.records.specs.Reading.{read_as, read_of}
use Rattle.executive.specs.Queue.{behind, insert, count, ahead, prio_in, active_of, departures, above, entries_above}
use Rattle.executive.specs.Lists.{pad, each, sum_of, up_to, all_of}
use Rattle.executive.specs.Places.{task_at, put_at}
use Rattle.executive.specs.Table.{items, enter_at, departed, entered, depart, join, joins, apply, enter_in_flight, enter_all_in_flight, apply_in_flight, entries, moves_of, levels_of}
use Rattle.executive.specs.Clock.{interval, aim_at, rung, advanced}
use Rattle.executive.specs.Pool.{place_of}
use Rattle.executive.specs.Flags.{is_set}
use Rattle.executive.specs.Plans.{waking, terminate_plan, restart_plan, pause_plan, cancel_pause_plan, priority_of, wait_of, argument_of, start_now_plan, queue_request_plan, start_if_dormant_plan, request_of, start_or_queue_plan, set_plan, reset_plan, flag_plan, wait_plan, alarm_plan, tick_plan, passing, raisings, put_by_time, by_time, timed}
use Rattle.executive.specs.Messages.{mail_at}
use Rattle.executive.specs.Check.{emptied_at, messages_right, letters_fall}
use Rattle.executive.specs.Check.{all_but_queue, numbers_right, falls, exact_at, queue_right, times_right, started_right, masks_right, busy_right, waiters_at, waiters_right, dormant_right, pool_right, subs_from, subs_right, is_well_formed}
use Rattle.executive.specs.Sheet.{plan_of, marks_of}
use Rattle.executive.specs.Subprograms.{holds_any_of}
use Rattle.executive.specs.Refusals.{nobody_active, bad_body, holds_it, holds_not, holds_any, names_caller, alarm_running, pool_full, mail_full, ends_time, refusals}
use Rattle.executive.specs.Step.{accepted, refused, step_of}
use Rattle.executive.specs.Configuration.{tasks_from, tasks_in, configuration_in, task_right, is_configuration, sleepers, dormant_table, marked_start, starters, fresh_table, fresh_of}
use Rattle.executive.specs.Promises.Demands.{plan_of_record, history}
use Rattle.executive.specs.Promises.Worked.{along, Worked}

pub worked : Worked
unfolding tasks_from tasks_in configuration_in kind_of read_as read_of behind insert count ahead prio_in active_of departures above entries_above pad task_at put_at items enter_at departed entered depart join joins apply enter_in_flight enter_all_in_flight apply_in_flight entries moves_of interval aim_at place_of is_set each rung advanced waking terminate_plan restart_plan pause_plan cancel_pause_plan priority_of wait_of argument_of start_now_plan queue_request_plan start_if_dormant_plan request_of start_or_queue_plan set_plan reset_plan flag_plan wait_plan alarm_plan tick_plan up_to all_of sum_of numbers_right falls exact_at queue_right times_right started_right masks_right busy_right waiters_at waiters_right dormant_right pool_right subs_from subs_right all_but_queue is_well_formed plan_of nobody_active bad_body holds_any_of holds_it holds_not holds_any names_caller alarm_running pool_full mail_full ends_time refusals first_of marks_of accepted refused step_of task_right is_configuration sleepers dormant_table marked_start starters fresh_table fresh_of plan_of_record history along passing raisings put_by_time by_time timed levels_of emptied_at mail_at messages_right letters_fall
worked = record {
  started = refl;
  well_formed = refl;
  ready = refl;
  priority = refl;
  behind = refl;
  active = refl;
  numbers = refl;
  actives = refl;
  aheads = refl;
  entered = refl;
  departed = refl;
}
