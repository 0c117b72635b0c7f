use mathlib.Core.Path.{refl}
use Rattle.executive.specs.Flags.{is_set}
use Rattle.executive.proofs.flags.is_set.Goals as goal

pub returns : goal.returns
unfolding is_set
returns c = rw c.bit_of.ensures refl
