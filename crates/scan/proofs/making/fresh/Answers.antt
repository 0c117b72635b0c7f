use mathlib.Core.Path.{refl}
use Rattle.scan.specs.Making.{made_of}
use Rattle.scan.proofs.making.fresh.Goals as goal

pub returns : goal.returns
unfolding made_of
returns c = rw (c.from.ensures, c.ready_count.ensures.0, c.numbered-entries.ensures, c.fresh-made.ensures) refl
