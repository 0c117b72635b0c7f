-- `sound::see` meets its contract: both parts of the check are right, or the one that is not decides.
use mathlib.Core.Path.{refl, sym, ◌∙◌}
use Rattle.image.proofs.FirstPart.{lists_last, sees_all}
use Rattle.image.proofs.sound.see.Goals as goal

pub lists_right-requires : goal.lists_right-requires
lists_right-requires c =
    let b = c.in_ok-seen.ensures in
    ((b.counted refl).1, (b.counted refl).0, b.known refl, b.kinds refl, b.others refl)

pub returns-then-not-lists_right : goal.returns-then-not-lists_right
returns-then-not-lists_right c = sym (lists_last c.args.b.now c.in_ok-seen.ensures refl _ c.lists_right.ensures) ∙ c.if-not-lists_right.true

pub returns : goal.returns
returns c = sees_all c.args.b.now c.in_ok-seen.ensures refl (sym c.lists_right.ensures ∙ c.if-not-lists_right.false)
