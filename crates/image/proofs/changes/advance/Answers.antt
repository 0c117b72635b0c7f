-- The clock gains a granule; the alarms that are running are not changed by that, so those that are due ring.
use native.Mathlib.Omega.{arith}
use mathlib.Core.Path.{refl, ◌∙◌}
use Rattle.image.proofs.ReadOff.{clock-read, granule-read}
use Rattle.image.proofs.RestLaid.{sum_of, advanced-laid}
use Rattle.image.proofs.changes.advance.Goals as goal

pub returns-then-now-gt-END_OF_TIME : goal.returns-then-now-gt-END_OF_TIME
returns-then-now-gt-END_OF_TIME c = λ t l r h e. absurd (omega (arith, h, c.long_in-now.ensures ∙ clock-read t l, c.if-now-gt-END_OF_TIME.true))

pub returns : goal.returns
returns c =
    λ t l r h e.
    advanced-laid t _ _ l.sizes.alarms (sum_of (c.long_in-now.ensures ∙ clock-read t l) (granule-read t l)) e
    (c.ring_from.ensures _ (c.set_clock.ensures t l) r refl)
