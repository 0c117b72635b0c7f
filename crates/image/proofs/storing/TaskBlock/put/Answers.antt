-- A task's block is written as the trait says: the two writes make one.
use native.Mathlib.Omega.{arith}
use Rattle.image.specs.Coding.{front_bytes, run_bytes}
use Rattle.image.proofs.Spans.{and_then}
use Rattle.image.proofs.storing.TaskBlock.put.Goals as goal

pub returns-clause-value : goal.returns-clause-value
returns-clause-value c =
    let a = c.args in
    let e = a.self.now in
    and_then a.out.now a.at (front_bytes e.own e.state) (run_bytes e) c.put_state.ensures c.put_run.ensures (omega (arith, c.requires))
