-- `telling::step_line` meets its contract: its pieces one after the other.
use native.Mathlib.Omega.{arith}
use Rattle.text.proofs.Assured.{then, put_last}
use Rattle.why.specs.Texts.{step_line}
use Rattle.why.proofs.telling.step_line.Goals as goal

pub returns : goal.returns
unfolding step_line
returns c =
    let w = c.worded-a.ensures in
    let d = c.cause_text-b.ensures in
    let p = put_last c.put.ensures (omega (arith, w.1, w.0.size, d.1, d.0.size, c.requires)) in
    (then w.0 (then d.0 p), omega (arith, w.1, d.1, p.place))
