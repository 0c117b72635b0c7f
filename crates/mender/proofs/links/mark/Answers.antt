use mathlib.Core.Path.{sym}
use native.Mathlib.Omega.{arith}
use mathlib.Core.Path.{◌≡◌}
use lib.ListN.{length}
use Rattle.mender.proofs.CodeLinks.{mark-place, mark-no-place}
use Rattle.mender.proofs.links.mark.Goals as goal

pub returns-else-i-lt16 : goal.returns-else-i-lt16
returns-else-i-lt16 c =
    let l : length c.args.named.now ≡ 16 = omega arith in
    sym (mark-no-place c.args.named.now l c.args.w.0 _ c.entry_place-i.ensures (omega (arith, c.if-i-lt16.false)))

pub returns-then-i-lt16 : goal.returns-then-i-lt16
returns-then-i-lt16 c =
    let l : length c.args.named.now ≡ 16 = omega arith in
    rw c.entry_place-i.ensures (sym (mark-place c.args.named.now l c.args.w.0))
