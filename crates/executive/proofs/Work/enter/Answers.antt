use mathlib.Core.Path.{refl}
use Prim.Native.Nat.{◌≤◌}
use native.Mathlib.Omega.{arith}
use Rattle.executive.specs.Table.{enter_in_flight}
use Rattle.executive.proofs.queue.ArraysAreLists.{ahead-ready}
use Rattle.executive.proofs.levels.OnTheWay.{lit-entered}
use Rattle.executive.proofs.queue.Walk.{sum-most}
use Rattle.executive.proofs.places.TaskAt.{priority_put}
use Rattle.executive.proofs.Work.enter.Goals as goal

pub slid-t-requires : goal.slid-t-requires
slid-t-requires c =
    (omega arith, (rw c.ahead-at.ensures (ahead-ready c.args.self.table c.requires.0.fit _ _), omega (arith, c.requires.0.room)))

pub overflow_cast-self : goal.overflow_cast-self
overflow_cast-self c =
    let l : c.ahead-at.result ≤ c.args.self.table.ready = rw c.ahead-at.ensures (ahead-ready c.args.self.table c.requires.0.fit _ _) in
    omega (arith, c.requires.0.room)

pub overflow_add-self : goal.overflow_add-self
overflow_add-self c =
    let l : c.ahead-at.result ≤ c.args.self.table.ready = rw c.ahead-at.ensures (ahead-ready c.args.self.table c.requires.0.fit _ _) in
    omega (arith, c.requires.0.room, c.requires.0.walked, sum-most c.args.self.table.ready c.requires.0.fit.few)

pub returns : goal.returns
unfolding enter_in_flight
returns c =
    rw (
      c.level_bit.ensures,
      c.slid-t.ensures,
      c.ahead-at.ensures,
      c.priority_at-p.ensures,
      c.put_at-t.ensures,
      c.entering-e.ensures,
      c.read_at.ensures,
      priority_put c.args.self.table.tasks _ c.requires.0.fit.all c.args.k.0,
      lit-entered c.args.self.table c.requires.0.fit c.requires.0.lit c.args.k _ c.requires.1 (omega (arith, c.requires.0.room)),
    ) refl
