-- `lines::end_line` meets its contract: there is room for it.
use native.Mathlib.Omega.{arith}
use Rattle.text.proofs.Assured.{put_last}
use Rattle.bench.proofs.lines.end_line.Goals as goal

pub returns : goal.returns
returns c =
    put_last c.text.ensures (omega (arith, c.requires))
