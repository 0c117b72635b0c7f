use mathlib.Core.Path.{refl}
use Rattle.mender.specs.Links.{runs_of}
use Rattle.mender.proofs.CodeLinks.{run-stands, run_ends}
use Rattle.mender.proofs.links.run_turn.Goals as goal

pub returns-then-stands : goal.returns-then-stands
returns-then-stands c =
    let a = c.args in
    run-stands a.count (runs_of a.tasks.now a.named.now) a.i _ c.stands.ensures c.if-stands.true _ c.mark.ensures

pub returns-else-stands : goal.returns-else-stands
returns-else-stands c =
    let a = c.args in
    run_ends a.count (runs_of a.tasks.now a.named.now) a.i _ c.stands.ensures c.if-stands.false _ refl
