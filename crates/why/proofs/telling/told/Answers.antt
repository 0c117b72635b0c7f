-- `telling::told` meets its contract: the lines one after the other.
use native.Mathlib.Omega.{arith}
use mathlib.Core.Path.{◌≡◌}
use lib.ListN.{length, take}
use Rattle.text.proofs.Assured.{then, named}
use Rattle.why.proofs.Told.{text-refused, text_path, path_part, ring_part}
use Rattle.why.proofs.telling.told.Goals as goal

pub returns-then-reasons-ne0 : goal.returns-then-reasons-ne0
returns-then-reasons-ne0 c =
    let a = c.args in
    (named (text-refused a.reasons a.clock c.if-reasons-ne0.true) c.said.ensures.0, omega (arith, c.said.ensures.1))

pub returns : goal.returns
returns c =
    let a = c.args in
    let l : length a.reasons.steps ≡ 16 = c.well_formed.1.0.1.1.1.1.0.1.0.1 in
    let n = c.min.result in
    let xs = take n a.reasons.steps in
    let e = text_path a.reasons a.clock n (path_part a.reasons n l c.min.ensures) c.if-reasons-ne0.false in
    let r = c.ring_line.ensures in
    let q = rw (ring_part xs c.saturating_sub-start.result c.min-2.result c.min-2.ensures, c.saturating_sub-start.ensures) at r.0 in
    (named e (then c.said-a.ensures.0 (then c.step_lines-b.ensures.0 q)), omega (arith, c.said-a.ensures.1, c.step_lines-b.ensures.1, r.1))
