-- `loading::task_in` meets its contract: each number is read where the widths put it.
use mathlib.Core.Path.{refl}
use Rattle.image.proofs.loading.task_in.Goals as goal

pub returns : goal.returns
returns c =
    rw (
      c.state_of.ensures,
      c.byte_in-awaited.ensures,
      c.byte_in-end_waiter.ensures,
      c.long_in-start.ensures,
      c.pair_in-argument.ensures,
      c.byte_in-priority.ensures,
      c.word_in-mask.ensures,
      c.long_in-time.ensures,
      c.byte_in-kind.ensures,
      c.byte_in-own.ensures,
    )
    refl
