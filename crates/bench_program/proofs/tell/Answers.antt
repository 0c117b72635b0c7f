use Rattle.std.proofs.Common.{sym, ◌∙◌, arith}
use Rattle.bench.proofs.Assured.{promise}
use Rattle.bench_program.proofs.tell.Goals as goal

pub loop-out-init : goal.loop-out-init
loop-out-init g c = rw c.start-run.ensures (promise.start-sound c.args.input.now)

pub loop-out-smaller : goal.loop-out-smaller
loop-out-smaller g c =
    promise.fewer _ _ _ _ _ c.fill-filled.ensures c.loop-out.invariant (omega (arith, c.loop-out-test.array_long)) (sym c.is_some.ensures ∙ c.loop-out-test.true)

pub loop-out-preserved : goal.loop-out-preserved
loop-out-preserved g c = promise.sound _ _ _ _ _ c.fill-filled.ensures c.loop-out.invariant
