use Rattle.bench.specs.Pieces.{Sound, lines}
use Rattle.bench_program.proofs.tell.Given as goal

abbrev pub invariant-loop-out : goal.invariant-loop-out
invariant-loop-out g l = Sound l.input l.run

abbrev pub decreases-loop-out : goal.decreases-loop-out
decreases-loop-out g l = lines l.input l.run
