use Rattle.image.proofs.EntryLaid.{then-laid}
use Rattle.executive.specs.declared.State.TheVariants as state
use Rattle.executive.specs.Entries.{with_state}
use lib.ListN.{get_or}
use Rattle.executive.specs.Places.{no_task, no_request, nobody, never}
use Rattle.image.specs.Laid.{with_run, with_waiter}
use Rattle.image.proofs.entries.leave.Goals as goal

pub returns-in-Sleeps : goal.returns-in-Sleeps
returns-in-Sleeps c =
    λ t l. rw c.in-Sleeps.is (then-laid t l c.args.i c.requires (with_run no_request never (get_or t.tasks c.args.i no_task)) (with_state state.Dormant) (c.set_state.ensures _ (c.set_run.ensures t l)))

pub returns-in-DueAt : goal.returns-in-DueAt
returns-in-DueAt c =
    λ t l. rw c.in-DueAt.is (then-laid t l c.args.i c.requires (with_waiter nobody (get_or t.tasks c.args.i no_task)) (with_state (state.Due _)) (c.set_state-in-DueAt.ensures _ (c.set_waiter.ensures t l)))
