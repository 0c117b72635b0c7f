-- `causes::by_start` meets its contract: the request that names the task, or one past the last.
use Prim.Native.Nat.{◌+◌}
use native.Mathlib.Omega.{arith}
use mathlib.Core.Path.{ap}
use lib.ListN.{length}
use Rattle.why.specs.declared.Cause.TheVariants as cause
use Rattle.why.proofs.Causing.{target_past, target_next}
use Rattle.why.proofs.causes.by_start.Goals as goal

pub returns-in-Some : goal.returns-in-Some
returns-in-Some c =
    let i = c.in-Some.i in
    rw c.in-Some.ensures.1 (ap (cause.Start (i + 1)) (target_next c.args.pool.now i))

pub returns-in-None : goal.returns-in-None
returns-in-None c =
    let rs = c.args.pool.now in
    rw c.in-None.ensures (ap (cause.Start (length rs + 1)) (target_past rs (length rs + 1) (omega arith)))
