-- `checking::is_image` meets its contract.
use mathlib.Core.Path.{refl, sym, ◌∙◌}
use native.Mathlib.Omega.{arith}
use Rattle.std.proofs.Common.{rules}
use Rattle.image.specs.Sound.{code_at}
use Rattle.image.proofs.Canonical.{not-long}
use Rattle.image.proofs.Beheld.{image-codes}
use Rattle.image.proofs.Ranges.{checked-below}
use Rattle.image.proofs.checking.is_image.Goals as goal

pub returns-in_default : goal.returns-in_default
returns-in_default c = not-long c.args.bytes.now c.in_default.ensures.cases

pub returns : goal.returns
returns c =
    let w = c.in-Some.ensures.cases in
    let s = c.args.bytes.now in
    rw w.same at (checked-below _ _ c.all.result 16 (code_at c.in-Some.b.now) refl (λ i y q e. search rules) c.all.ensures.ran)
    ∙ sym (image-codes s (λ k. omega (arith, c.type_inv.bytes k)) w.long)
