-- `causes::by_end` meets its contract: the request that names the task, or else the run.
use Prim.Native.Nat.{◌+◌}
use native.Mathlib.Omega.{arith}
use mathlib.Core.Path.{ap}
use borrow.Author.Tests.{le-leb}
use lib.ListN.{length}
use Rattle.why.specs.declared.Cause.TheVariants as cause
use Rattle.why.proofs.Causing.{target_next}
use Rattle.why.proofs.causes.by_end.Goals as goal

pub returns-in-Some : goal.returns-in-Some
returns-in-Some c =
    let i = c.in-Some.i in
    let rs = c.args.pool.now in
    rw (c.in-Some.ensures.1, le-leb (i + 1) (length rs) (omega (arith, c.in-Some.ensures.0))) (ap (cause.EndOfRequest (i + 1)) (target_next rs i))
