use mathlib.Core.Path.{sym, ◌∙◌}
use native.Mathlib.Omega.{arith}
use borrow.Author.Tests.{le-ltb}
use Rattle.mender.proofs.CodeLinks.{named-place, named-no-place}
use Rattle.mender.proofs.links.named_at.Goals as goal

pub returns-then-i-lt16 : goal.returns-then-i-lt16
returns-then-i-lt16 c = rw c.entry_place-i.ensures (sym (named-place c.args.named c.well_formed.0.1.0.1 c.args.w.0))

pub returns-else-i-lt16 : goal.returns-else-i-lt16
returns-else-i-lt16 c = le-ltb _ _ c.if-i-lt16.false ∙ sym (named-no-place c.args.named c.well_formed.0.1.0.1 c.args.w.0 _ c.entry_place-i.ensures (omega (arith, c.if-i-lt16.false)))
