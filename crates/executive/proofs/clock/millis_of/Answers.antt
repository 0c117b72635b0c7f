use mathlib.Core.Path.{refl}
use Rattle.executive.specs.Clock.{interval}
use Rattle.executive.proofs.clock.millis_of.Goals as goal

pub returns : goal.returns
unfolding interval
returns c = rw (c.added_up.ensures, c.unit_of-one.ensures) refl
