-- The check passes the sound table and refuses each broken one by its rule alone, as computed.
use mathlib.Core.Path.{refl}
use Rattle.executive.specs.Lists.{pad, sum_of, up_to, all_of}
use Rattle.executive.specs.Places.{put_at, task_at}
use Rattle.executive.specs.Table.{items, levels_of}
use Rattle.executive.specs.Check.{falls, exact_at, waiters_at, all_but_queue, numbers_right, queue_right, times_right, started_right, masks_right, busy_right, waiters_right, dormant_right, pool_right, subs_from, subs_right, is_well_formed}
use Rattle.executive.specs.Check.{emptied_at, letters_fall, messages_right}
use Rattle.executive.specs.Messages.{mail_at}
use Rattle.executive.specs.Promises.Broken.{sound, no_granule, entry_beyond, waits_for_eight, out_of_order, twice_ready, pause_over, alarm_far, late_start, no_mask, wait_over, idle_target, named_twice, unnamed, own_waiter, sleep_talk, stray_place, sleeping_holder, nobody_inside, twice_in_line, lower_first, stray_in_line, left_out, wrong_light, light_out, Broken}
use Rattle.executive.specs.Promises.Broken.{sound_mail, left_waiting, any_waiting, late_letter, stray_letter, from_nobody, sleeper_mail, mail_beyond}

pub broken : Broken
unfolding pad put_at task_at sum_of up_to all_of falls exact_at waiters_at numbers_right queue_right times_right started_right masks_right busy_right waiters_right dormant_right pool_right subs_from subs_right all_but_queue is_well_formed sound no_granule entry_beyond waits_for_eight out_of_order twice_ready pause_over alarm_far late_start no_mask wait_over idle_target named_twice unnamed own_waiter sleep_talk stray_place sleeping_holder nobody_inside twice_in_line lower_first stray_in_line left_out wrong_light light_out levels_of items mail_at emptied_at letters_fall messages_right sound_mail left_waiting any_waiting late_letter stray_letter from_nobody sleeper_mail mail_beyond
broken = record {
  kept = refl;
  kept-mail = refl;
  numbers = ((refl, refl), (refl, refl), (refl, refl), (refl, refl));
  queue = ((refl, refl), (refl, refl));
  times = ((refl, refl), (refl, refl));
  started = (refl, refl);
  masks = ((refl, refl), (refl, refl));
  busy = (refl, refl);
  waiters = ((refl, refl), (refl, refl), (refl, refl));
  dormant = ((refl, refl), (refl, refl), (refl, refl));
  pool = (refl, refl);
  subprograms = ((refl, refl), (refl, refl), (refl, refl), (refl, refl), (refl, refl), (refl, refl));
  messages = ((refl, refl), (refl, refl), (refl, refl), (refl, refl));
  levels = ((refl, refl), (refl, refl));
}
