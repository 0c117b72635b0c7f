use mathlib.Core.Path.{ap, sym, ◌∙◌}
use native.Mathlib.Omega.{arith}
use Rattle.executive.specs.Table.{lit_in_flight}
use Rattle.executive.proofs.queue.InFlight.{fewer-flying, enter-flying, lit-on_the_way, lit-flying}
use Rattle.executive.proofs.decisions.Listing.{enters-next, finds-next, enters-end}
use Rattle.executive.proofs.Work.enter_all.Goals as goal

pub enter-self-requires : goal.enter-self-requires
enter-self-requires c =
    let v = c.loop-x in
    (fewer-flying _ 1 _ (omega arith) v.invariant.0, (finds-next _ _ _ v.self v.x-index c.loop-x-test.true v.invariant.1).0)

pub loop-x-preserved : goal.loop-x-preserved
loop-x-preserved c =
    let v = c.loop-x in
    let u = c.loop-x-test.true in
    rw c.enter-self.ensures (
      enter-flying _ _ _ v.self (fewer-flying _ _ v.self (omega arith) v.invariant.0),
      (finds-next _ _ _ v.self v.x-index u v.invariant.1).1,
      lit-on_the_way _ _ ∙ ap lit_in_flight (enters-next _ _ _ v.self v.x-index u) ∙ v.invariant.2,
    )

pub returns : goal.returns
returns c =
    let v = c.loop-x in
    lit-flying _ v.self v.invariant.0 ∙ sym (ap lit_in_flight (enters-end _ _ _ v.self v.x-index c.loop-x-test.false)) ∙ v.invariant.2
