-- `fields::level` meets its contract: by its three cases.
use Prim.Native.Nat.{ℕ, ◌-◌, ◌*◌, ◌+◌}
use mathlib.Core.Path.{◌≡◌, ap, ◌∙◌}
use native.Mathlib.Omega.{arith}
use lib.ListN.{get_or}
use Rattle.executive.proofs.Assured.{place_none, place-past, place-task}
use Rattle.image.proofs.ReadOff.{level-of, level-none}
use Rattle.image.proofs.fields.level.Goals as goal

pub returns-then-n-eq0 : goal.returns-then-n-eq0
returns-then-n-eq0 c =
    let k = c.args.k in
    λ t h. level-none t h k 16 (place_none k (omega (arith, c.wide-n.ensures, c.if-n-eq0.true))) (omega arith)

pub returns-then-n-gt16 : goal.returns-then-n-gt16
returns-then-n-gt16 c =
    let k = c.args.k in
    λ t h. level-none t h k 16 (place-past k (omega (arith, c.wide-n.ensures, c.if-n-gt16.true))) (omega arith)

pub returns : goal.returns
returns c =
    let a = c.args in
    let e = c.wide-n.ensures in
    let z : c.wide-n.result * 26 - 12 ≡ (a.k - 1) * 26 + 14 = omega (arith, e, c.if-n-eq0.false) in
    λ t h. ap (λ (i : ℕ). get_or a.b.now i 0) z ∙ level-of t h a.k (a.k - 1) (place-task a.k (omega (arith, e, c.if-n-eq0.false)) (omega (arith, e, c.if-n-gt16.false))) (omega (arith, e, c.if-n-gt16.false))
