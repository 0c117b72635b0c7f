-- `loading::request_in` meets its contract: each number is read where the widths put it.
use mathlib.Core.Path.{refl}
use Rattle.image.proofs.loading.request_in.Goals as goal

pub returns : goal.returns
returns c =
    rw (
      c.byte_in-end_waiter.ensures,
      c.byte_in-start_waiter.ensures,
      c.pair_in-argument.ensures,
      c.byte_in-priority.ensures,
      c.byte_in-target.ensures,
    )
    refl
