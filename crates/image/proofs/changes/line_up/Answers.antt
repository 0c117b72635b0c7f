use native.Mathlib.Omega.{arith}
use Rattle.executive.specs.Subprograms.{sub_at}
use Rattle.image.proofs.RestLaid.{having-own, having-read, line_slid_laid, waiting-laid, joined-laid}
use Rattle.image.proofs.changes.line_up.Goals as goal

pub returns-then-n-gt15 : goal.returns-then-n-gt15
returns-then-n-gt15 c =
    λ t l h f g d.
    let m = c.args.m.0 in
    let n = l.sizes.subs in
    let x = sub_at t.rest m in
    absurd (omega (arith, d, having-read t m h n 1 x (having-own t m h n l) (omega arith), c.if-n-gt15.true))

pub returns-then-n-at : goal.returns-then-n-at
returns-then-n-at c =
    λ t l h f g d.
    let m = c.args.m.0 in
    let n = l.sizes.subs in
    let x = sub_at t.rest m in
    absurd (omega (arith, g, having-read t m h n 1 x (having-own t m h n l) (omega arith), c.if-n-at.true))

pub returns : goal.returns
returns c =
    λ t l h f g d.
    let m = c.args.m.0 in
    let n = l.sizes.subs in
    let x = sub_at t.rest m in
    let l0 = having-own t m h n l in
    let ec = having-read t m h n 1 x l0 (omega arith) in
    let c1 = line_slid_laid t m h n c.args.at _ c.args.k x l0 (omega (arith, c.if-n-at.false)) (omega (arith, c.if-n-gt15.false)) c.slide.ensures in
    joined-laid t m h n c.args.at _ c.args.k f ec g d (waiting-laid t m h n _ _ c1 c.put_byte.ensures)
