-- `making::start_at` meets its contract.
use mathlib.Core.Path.{refl}
use native.Mathlib.Omega.{arith}
use Rattle.image.proofs.FreshLaid.{start_none, start-one}
use Rattle.image.proofs.making.start_at.Goals as goal

pub returns-then-byte_at-ne1 : goal.returns-then-byte_at-ne1
returns-then-byte_at-ne1 c = let p = c.requires in λ t n l f d a. start_none _ _ p t n l f d _ c.byte_at.ensures c.if-byte_at-ne1.true

pub returns : goal.returns
returns c =
    let p = c.requires in
    λ t n l f d a.
    let e = c.beginning.ensures t l in
    start-one _ _ p t n l f d _ _ _ c.byte_at.ensures c.if-byte_at-ne1.false c.byte_at-own.ensures a refl
    (c.line_up.ensures.laid t _ e f.fit (omega (arith, f.room)) f.lit d a).0
