use Rattle.executive.specs.Subprograms.{sub_at}
use Rattle.image.proofs.RestLaid.{having-own, holder-laid}
use Rattle.image.proofs.changes.hold.Goals as goal

pub returns : goal.returns
returns c =
    λ t l h.
    let m = c.args.m.0 in
    let n = l.sizes.subs in
    let x = sub_at t.rest m in
    holder-laid t m h n c.args.k x (having-own t m h n l) c.put_byte.ensures
