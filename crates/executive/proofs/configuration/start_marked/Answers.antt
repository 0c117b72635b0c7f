-- `executive::configuration::start_marked` meets its contract.
use mathlib.Core.Path.{ap, ◌∙◌}
use native.Mathlib.Omega.{arith}
use Prim.Native.Nat.{◌+◌}
use Rattle.executive.specs.declared.Work.{Work}
use Rattle.executive.specs.Table.{enter_all_in_flight, lit_in_flight}
use Rattle.executive.specs.Configuration.{marked_start, starters}
use Rattle.executive.proofs.configuration.Loops.{marked-short, start-more, nobody_in, start-vacant}
use Rattle.executive.proofs.queue.InFlight.{fewer-flying, enters-flying, lit-on_the_way, lit-flying}
use Rattle.executive.proofs.configuration.start_marked.Goals as goal

pub loop-i-init : goal.loop-i-init
unfolding starters enter_all_in_flight
loop-i-init c =
    (fewer-flying _ _ _ (omega arith) c.requires.0, lit-flying _ c.args.w c.requires.0, λ j _. nobody_in c.args.w.table c.requires.1 j)

pub loop-i-preserved : goal.loop-i-preserved
loop-i-preserved c =
    let s = c.args.s.now in
    let v = c.loop-i in (
      rw c.start_at-v.ensures (enters-flying _ _ v.v (fewer-flying _ _ v.v (omega (arith, marked-short s (v.i + 1))) v.invariant.0)),
      c.start_at-v.ensures
          ∙ ap (λ (w : Work). lit_in_flight (enter_all_in_flight (marked_start s (v.i + 1)) w)) v.invariant.1
          ∙ lit-on_the_way (marked_start s (v.i + 1)) _
          ∙ ap lit_in_flight (start-more s v.i _),
      λ j h. rw c.start_at-v.ensures (start-vacant s (v.i + 1) v.v j h (v.invariant.2 j (omega arith)) (v.invariant.2 (v.i + 1) (omega arith))),
    )
