-- `storing::put_head` meets its contract: the four writes make one.
use mathlib.Core.List.{[], ◌∷◌, ◌++◌}
use native.Mathlib.Omega.{arith}
use Rattle.records.specs.Numbers.{bytes_in}
use Rattle.image.specs.Image.{head_at}
use Rattle.image.proofs.Spans.{and_then}
use Rattle.image.proofs.storing.put_head.Goals as goal

pub returns : goal.returns
returns c =
    let a = c.args in
    let o = a.out.now in
    let b0 = a.ready ∷ a.rest.now.count ∷ [] in
    let b1 = a.rest.now.granule ∷ a.rest.now.queued ∷ [] in
    let b2 = bytes_in 8 a.rest.now.clock.0 in
    let b3 = bytes_in 4 a.rest.now.flags in
    let e1 = and_then o head_at b0 b1 c.put_both.ensures c.put_both-2.ensures (omega (arith, c.told-out)) in
    let e2 = and_then o head_at (b0 ++ b1) b2 e1 c.put_long.ensures (omega (arith, c.told-out)) in
    and_then o head_at ((b0 ++ b1) ++ b2) b3 e2 c.put_word.ensures (omega (arith, c.told-out))
