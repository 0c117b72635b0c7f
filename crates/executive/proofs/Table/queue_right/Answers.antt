use mathlib.Core.Path.{◌≡◌}
use borrow.Author.Tests.{eq-eqb}
use lib.ListN.{length}
use Rattle.executive.specs.Check.{queue_right}
use Rattle.executive.proofs.Table.queue_right.Goals as goal

-- the size of the queue is that of its type
pub returns : goal.returns
unfolding queue_right
returns c =
    let l : length c.args.self.queue ≡ 16 = c.well_formed.0.1.1.1.0.1.0.1 in
    rw (eq-eqb _ _ l) c.queue_right.ensures
