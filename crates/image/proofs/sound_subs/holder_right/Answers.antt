-- `sound_subs::holder_right` meets its contract: it has a holder or none.
use mathlib.Core.Path.{refl}
use borrow.Author.Tests.{eq-eqb, ne_eqb}
use Rattle.image.proofs.sound_subs.holder_right.Goals as goal

pub returns-then-b-at-eq0 : goal.returns-then-b-at-eq0
returns-then-b-at-eq0 c = rw (eq-eqb _ _ c.if-b-at-eq0.true) refl

pub returns : goal.returns
returns c = rw (ne_eqb _ _ c.if-b-at-eq0.false, c.is_idle.ensures) refl
