use native.Mathlib.Omega.{arith}
use mathlib.Core.Path.{refl, sym, ◌∙◌}
use Rattle.executive.specs.Subprograms.{sub_at}
use Rattle.executive.specs.Places.{nobody}
use Rattle.image.proofs.Joined.{row_read}
use Rattle.image.proofs.Spans.{Wide, each_all}
use Rattle.image.specs.Image.{place_bytes}
use Rattle.image.proofs.RestLaid.{having-own, having-read, holder-laid, line-closed-laid, waiting-laid, free-laid, handed_on-laid}
use Rattle.image.proofs.changes.hand_on.Goals as goal

pub returns-then-n-eq0 : goal.returns-then-n-eq0
returns-then-n-eq0 c =
    λ t l h f.
    let m = c.args.m.0 in
    let n = l.sizes.subs in
    let x = sub_at t.rest m in
    let l0 = having-own t m h n l in
    let ec = having-read t m h n 1 x l0 (omega arith) in
    free-laid t m h n f (sym ec ∙ c.if-n-eq0.true) (holder-laid t m h n nobody x l0 c.put_byte.ensures)

pub returns : goal.returns
returns c =
    λ t l h f.
    let m = c.args.m.0 in
    let n = l.sizes.subs in
    let x = sub_at t.rest m in
    let k = l.sizes.lines m in
    let l0 = having-own t m h n l in
    let ec = having-read t m h n 1 x l0 (omega arith) in
    let ew = having-read t m h n 2 x l0 (omega arith) ∙ row_read place_bytes 1 x.line (each_all (Wide place_bytes 1) (λ y. refl) x.line) 0 nobody 0 (omega arith) (omega arith) in
    let c1 = holder-laid t m h n (record { 0 = _ }) x l0 c.put_byte-2.ensures in
    let c2 = line-closed-laid t m h n _ c1 c.close_up.ensures in
    let c3 = waiting-laid t m h n _ _ c2 c.put_byte-3.ensures in
    handed_on-laid t m h n _ _ f ew ec (omega (arith, c.if-n-eq0.false)) k c3
