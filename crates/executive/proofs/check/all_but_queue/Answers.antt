use mathlib.Core.Path.{◌≡◌}
use lib.ListN.{length}
use Rattle.executive.proofs.check.Passes.{sized}
use Rattle.executive.proofs.check.all_but_queue.Goals as goal
use Rattle.executive.proofs.check.all_but_queue.Goals.{Start}

-- the sizes of the arrays are those of their types
pub returns : goal.returns
returns c =
    let s = (goal.at.returns c).Start in
    let r = s.args.rest in
    let l1 : length r.alarms ≡ 32 = s.well_formed.1.0.1.1.1.1.1.1.0.1.0.1 in
    let l2 : length r.pool ≡ 32 = s.well_formed.1.0.1.1.1.1.1.1.1.0.1.0.1 in
    let l3 : length r.subs ≡ 8 = s.well_formed.1.0.1.1.1.1.1.1.1.1.1.0.1.0.1 in
    let l4 : length r.messages ≡ 32 = s.well_formed.1.0.1.1.1.1.1.1.1.1.1.1.0.1.0.1 in
    let l5 : length r.mail ≡ 16 = s.well_formed.1.0.1.1.1.1.1.1.1.1.1.1.1.1.0.1.0.1 in
    sized s.args.tasks r s.well_formed.0.1.0.1 l1 l2 l3 l4 l5 c.in_passes.ensures
