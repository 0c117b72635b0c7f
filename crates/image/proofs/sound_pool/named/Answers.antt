-- `sound_pool::named` meets its contract. The invariant: those whose numbers stand from i on, with those so far, are all.
use mathlib.Core.Path.{refl, sym, ◌∙◌}
use Rattle.image.proofs.Named.{names-turn, names-end}
use Rattle.image.proofs.sound_pool.named.Goals as goal

pub loop-i-init : goal.loop-i-init
loop-i-init c = refl

pub loop-i-preserved : goal.loop-i-preserved
loop-i-preserved c =
    let a = c.args in
    let v = c.loop-i in
    rw c.with-all.ensures (names-turn a.count a.b.now a.step a.n a.at v.i v.all c.loop-i-test.true ∙ v.invariant)

pub returns : goal.returns
returns c =
    let a = c.args in
    let v = c.loop-i in
    sym (names-end a.count a.b.now a.step a.n a.at v.i v.all c.loop-i-test.false) ∙ v.invariant
