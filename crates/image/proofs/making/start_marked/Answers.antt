-- `making::start_marked` meets its contract. The invariant: the bytes are the image of a table on the way, in which nobody past k
-- is ready.
use mathlib.Core.Path.{◌∙◌}
use native.Mathlib.Omega.{arith}
use Rattle.image.proofs.FreshLaid.{starting-first, starting-next, starting-end}
use Rattle.image.proofs.making.start_marked.Goals as goal

pub loop-k-init : goal.loop-k-init
loop-k-init c = let p = c.requires in λ t l f z. starting-first _ t _ l f z

pub loop-k-preserved : goal.loop-k-preserved
loop-k-preserved c =
    let v = c.loop-k in
    λ t l f z. starting-next _ t _ v.k (omega arith) (v.invariant t l f z) c.start_at.ensures

pub returns : goal.returns
returns c =
    let v = c.loop-k in
    λ t l f z. starting-end _ t _ v.k (omega arith) (v.invariant t l f z)
