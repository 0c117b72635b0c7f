-- The bench cards hold, and the law of the fresh table: what is concrete is computed.
use mathlib.Core.Path.{refl}
use Prim.Native.Nat.{◌-◌, ◌^◌}
use Rattle.records.specs.Firsts.{first_of}
use Rattle.records.specs.Kinds.{kind_of}
use Rattle.records.specs.Reading.{read_as, read_of}
use Rattle.executive.specs.Queue.{behind}
use Rattle.executive.specs.Lists.{pad, each, sum_of, up_to, all_of}
use Rattle.executive.specs.Places.{task_at, put_at}
use Rattle.executive.specs.Table.{items, enter_at, departed, entered, depart, enter_in_flight, enter_all_in_flight, apply_in_flight, levels_of}
use Rattle.executive.specs.Clock.{interval, aim_at, rung, advanced}
use Rattle.executive.specs.Pool.{place_of}
use Rattle.executive.specs.Flags.{is_set}
use Rattle.executive.specs.Plans.{waking, terminate_plan, restart_plan, pause_plan, cancel_pause_plan, priority_of, wait_of, argument_of, start_now_plan, queue_request_plan, start_if_dormant_plan, request_of, start_or_queue_plan, passing, raisings, put_by_time, by_time, timed, set_plan, reset_plan, flag_plan, wait_plan, alarm_plan, tick_plan}
use Rattle.executive.specs.Sheet.{plan_of, marks_of}
use Rattle.executive.specs.Subprograms.{holds_any_of}
use Rattle.executive.specs.Refusals.{nobody_active, bad_body, holds_it, holds_not, holds_any, names_caller, alarm_running, pool_full, mail_full, ends_time, refusals}
use Rattle.executive.specs.Step.{accepted, refused, step_of}
use Rattle.executive.specs.Messages.{mail_at}
use Rattle.executive.specs.Check.{emptied_at, messages_right, letters_fall}
use Rattle.executive.specs.Check.{all_but_queue, numbers_right, falls, exact_at, queue_right, times_right, started_right, masks_right, busy_right, waiters_at, waiters_right, dormant_right, pool_right, subs_from, subs_right, is_well_formed}
use Rattle.executive.specs.Configuration.{tasks_from, tasks_in, configuration_in, task_right, is_configuration, sleepers, dormant_table, marked_start, starters, fresh_table, fresh_of}
use Rattle.executive.specs.Promises.Demands.{after}
use Rattle.executive.specs.Promises.Worked.{along}
use Rattle.executive.specs.Promises.Cards.{one, two, idle, at_time, again, full, Cards}
use Rattle.executive.specs.Promises.FreshLaw.{FreshLaw}
use Rattle.executive.proofs.check.Decides.{well_formed-iff}
use Rattle.executive.proofs.configuration.Shape.{configuration-within, found-again}
use Rattle.executive.proofs.configuration.Exactly.{spelled, tested}
use Rattle.executive.proofs.configuration.SaidOut.{said-out}
use Rattle.executive.proofs.configuration.WellFormed.{fresh-formed, fresh-room, fresh-clock, fresh-flags, fresh-made, fresh-refused, fresh-dispatched}

pub cards : Cards
unfolding behind pad task_at put_at enter_at departed entered depart enter_in_flight enter_all_in_flight apply_in_flight interval aim_at place_of is_set each rung advanced waking terminate_plan restart_plan pause_plan cancel_pause_plan priority_of wait_of argument_of start_now_plan queue_request_plan start_if_dormant_plan request_of start_or_queue_plan set_plan reset_plan flag_plan wait_plan alarm_plan tick_plan up_to all_of sum_of numbers_right falls exact_at queue_right times_right started_right masks_right busy_right waiters_at waiters_right dormant_right pool_right subs_from subs_right all_but_queue is_well_formed kind_of read_as read_of plan_of nobody_active bad_body holds_any_of holds_it holds_not holds_any names_caller alarm_running pool_full mail_full ends_time refusals first_of marks_of accepted refused step_of tasks_from tasks_in configuration_in task_right is_configuration sleepers dormant_table marked_start starters fresh_table fresh_of after along passing raisings put_by_time by_time timed items levels_of emptied_at mail_at messages_right letters_fall
cards = record {
  formed = (
    (well_formed-iff (one 1)).0 refl,
    (
      (well_formed-iff (one 10)).0 refl,
      ((well_formed-iff (two 10)).0 refl, ((well_formed-iff (two 100)).0 refl, ((well_formed-iff idle).0 refl, ((well_formed-iff again).0 refl, ((well_formed-iff full).0 refl, tt))))),
    ),
  );
  formed-later = (
    (well_formed-iff (at_time 420000 (one 10))).0 refl,
    ((well_formed-iff (at_time 540000 again)).0 refl, ((well_formed-iff (at_time 600000 again)).0 refl, tt)),
  );
  formed-last = ((well_formed-iff (at_time (2 ^ 40 - 1) (one 1))).0 refl, ((well_formed-iff (at_time (2 ^ 40) (one 1))).0 refl, tt));
  p1 = (refl, refl);
  p2 = (refl, refl, refl);
  p3 = (refl, refl, refl, refl, refl);
  p4 = (refl, refl, refl, refl);
  p5 = (refl, refl, refl, refl);
  p6 = (refl, refl, refl, refl);
  p7 = (refl, refl, refl);
  p8 = (refl, refl, refl, refl);
  p9 = (refl, refl, refl, refl);
  p10 = (refl, refl, refl);
  p11 = (refl, refl, refl);
  p12 = (refl, refl);
}

pub fresh_law : FreshLaw
unfolding behind pad task_at put_at enter_at entered enter_in_flight enter_all_in_flight up_to tasks_from tasks_in configuration_in task_right is_configuration sleepers dormant_table marked_start starters fresh_table fresh_of
fresh_law = record {
  exactly = λ s. (spelled s, tested s);
  formed = fresh-formed;
  room = fresh-room;
  said-out = said-out;
  clock = fresh-clock;
  flags = fresh-flags;
  made = fresh-made;
  refused = fresh-refused;
  dispatched = fresh-dispatched;
  within = configuration-within;
  ends = found-again;
  example = (refl, refl, refl);
}
