-- `fields::place` meets its contract: by its three cases.
use Prim.Native.Nat.{ℕ, ◌-◌}
use mathlib.Core.Path.{ap, ◌∙◌}
use native.Mathlib.Omega.{arith}
use Rattle.executive.proofs.Assured.{place_none, place-past, place-task}
use Rattle.image.proofs.fields.place.Goals as goal

pub returns-then-n-eq0 : goal.returns-then-n-eq0
returns-then-n-eq0 c = place_none c.args.k (omega (arith, c.wide-n.ensures, c.if-n-eq0.true))

pub returns-then-n-gt16 : goal.returns-then-n-gt16
returns-then-n-gt16 c = place-past c.args.k (omega (arith, c.wide-n.ensures, c.if-n-gt16.true))

pub returns : goal.returns
returns c =
    let e = c.wide-n.ensures in
    ap (λ (n : ℕ). n - 1) e ∙ place-task c.args.k (omega (arith, e, c.if-n-eq0.false)) (omega (arith, e, c.if-n-gt16.false))
