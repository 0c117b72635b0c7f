use Prim.Native.Nat.{◌+◌, ◌*◌}
use mathlib.Core.Path.{refl}
use lib.Dec.{eqb}
use lib.ListN.{get_or}
use Rattle.std.proofs.Common.{rules}
use Rattle.image.proofs.Finds.{holder-read, held-any}
use Rattle.image.proofs.Ranges.{checked-any}
use Rattle.image.proofs.runs.holds_any.Goals as goal

pub returns : goal.returns
returns c =
    let a = c.args in
    let s = a.b.now in
    λ t l.
    let z = l.sizes.subs in
    held-any a.k t.rest.subs (λ i. get_or s (914 + i * 18) 0) (λ i h. holder-read t l i (rw z at h)) c.any.result
    (rw z (checked-any _ _ c.any.result 8 (λ i. eqb a.k.0 (get_or s (914 + i * 18) 0)) refl (λ i y q e. search rules) c.any.ensures.ran))
