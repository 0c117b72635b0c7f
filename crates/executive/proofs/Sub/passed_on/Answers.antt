use native.Mathlib.Omega.{arith}
use Rattle.executive.proofs.subprograms.InLine.{made-handed}
use Rattle.executive.proofs.Sub.passed_on.Goals as goal

pub returns-then-n-ne0 : goal.returns-then-n-ne0
returns-then-n-ne0 c =
    rw c.closed_at-self.ensures (made-handed c.args.self c.requires _ c.first-w.ensures (omega (arith, c.if-n-ne0.true)))
