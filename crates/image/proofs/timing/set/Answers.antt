-- `timing::set` meets its contract: those who wake are those whose condition holds.
use mathlib.Core.Path.{ap, ◌∙◌}
use lib.Bits.{bit_or}
use Rattle.image.proofs.Timings.{set_is, set-woken}
use Rattle.image.proofs.timing.set.Goals as goal

pub returns : goal.returns
returns c =
    let a = c.args in
    let m = bit_or a.flags c.bit_of.result in
    λ t l k.
    c.letting_in.ensures _ (set-woken t.tasks m a.flagged l.sizes.tasks k _ (c.woken-entrants.ensures t l))
    ∙ set_is t.tasks a.flags a.f m (ap (bit_or a.flags) c.bit_of.ensures)
