use mathlib.Core.Path.{sym}
use Rattle.executive.specs.Clock.{missed}
use Rattle.executive.proofs.clock.Interval.{next-by-rest}
use Rattle.executive.proofs.clock.next_on_grid.Goals as goal

pub returns : goal.returns
unfolding missed
returns c =
    let p = c.split-parts in
    (rw p.ensures.1 (sym (next-by-rest c.args.start c.args.now c.args.every c.requires.0 c.requires.2)), p.ensures.0)
