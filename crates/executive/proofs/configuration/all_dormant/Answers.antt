-- `executive::configuration::all_dormant` meets its contract.
use mathlib.Core.Path.{refl}
use native.Mathlib.Omega.{arith}
use Rattle.executive.specs.Lists.{pad}
use Rattle.executive.specs.Configuration.{sleepers}
use Rattle.executive.proofs.configuration.Loops.{dormant-more}
use Rattle.executive.proofs.configuration.all_dormant.Goals as goal

pub loop-i-init : goal.loop-i-init
unfolding pad sleepers
loop-i-init c = refl

pub loop-i-preserved : goal.loop-i-preserved
loop-i-preserved c =
    let v = c.loop-i in
    rw (v.invariant, c.dormant.ensures, c.own_in.ensures) (dormant-more c.args.s.now v.i (omega arith))
