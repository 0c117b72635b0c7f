-- `sound_subs::line_right` meets its contract: the walk, the set and the free places decide.
use mathlib.Core.Path.{refl}
use Rattle.image.proofs.LinesRead.{line_other, line-last}
use Rattle.image.proofs.sound_subs.line_right.Goals as goal

pub returns-then-line-set : goal.returns-then-line-set
returns-then-line-set c =
    let a = c.args in
    let g = c.requires in
    λ m k. line_other a.b.now m a.at a.waiting a.count g.1 g.2 _ _ _ c.in-Some.ensures refl a.set k c.if-line-set.true

pub returns : goal.returns
returns c =
    let a = c.args in
    let g = c.requires in
    λ m k. line-last a.b.now m a.at a.waiting a.count g.1 g.2 _ _ _ c.in-Some.ensures refl a.set k c.if-line-set.false _ c.blank_from.ensures
