-- `loading::load_whole` meets its contract: the arrays and the numbers that stand alone are each read where the image has
-- them.
use mathlib.Core.Path.{refl}
use Rattle.image.specs.Image.{load_of}
use Rattle.image.proofs.loading.load_whole.Goals as goal

pub returns : goal.returns
unfolding load_of
returns c =
    rw (
      c.pair_in.ensures,
      c.byte_in-5.ensures,
      c.byte_in-4.ensures,
      c.byte_in-3.ensures,
      c.word_in.ensures,
      c.byte_in-2.ensures,
      c.byte_in.ensures,
      c.long_in-clock.ensures,
      c.mail_in-mail.ensures,
      c.messages_in-messages.ensures,
      c.subs_in-subs.ensures,
      c.pool_in-pool.ensures,
      c.alarms_in-alarms.ensures,
      c.line_in-queue.ensures,
      c.tasks_in-tasks.ensures,
    )
    refl
