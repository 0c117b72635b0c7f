use Rattle.image.proofs.EntryLaid.{then-laid}
use Rattle.executive.specs.declared.State.TheVariants as state
use Rattle.executive.specs.Entries.{with_state, aimed}
use lib.ListN.{get_or}
use Rattle.executive.specs.Places.{no_task}
use Rattle.image.specs.Laid.{with_start}
use Rattle.image.proofs.entries.enter.Goals as goal

pub returns-in-Risen : goal.returns-in-Risen
returns-in-Risen c =
    λ t l.
    let e = get_or t.tasks c.args.i no_task in
    rw c.in-Risen.is (then-laid t l c.args.i c.requires (with_start (aimed e.state e.start) e) (with_state state.Ready) (c.set_state-in-Risen.ensures _ (c.aim.ensures t l)))
