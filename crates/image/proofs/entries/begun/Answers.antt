-- `entries::begun` meets its contract: the run, then the state.
use Rattle.image.proofs.EntryLaid.{then-laid}
use Rattle.executive.specs.declared.State.TheVariants as state
use Rattle.executive.specs.Entries.{with_state}
use lib.ListN.{get_or}
use Rattle.executive.specs.Places.{no_task}
use Rattle.image.specs.Laid.{with_run}
use Rattle.image.proofs.entries.begun.Goals as goal

pub returns : goal.returns
returns c =
    λ t l. then-laid t l c.args.i c.requires (with_run c.args.q c.args.time (get_or t.tasks c.args.i no_task)) (with_state state.Ready)
    (c.set_state.ensures _ (c.set_run.ensures t l))
