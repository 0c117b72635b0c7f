-- `making::set_own` meets its contract. The invariant: the tasks up to i have their own priorities.
use mathlib.Core.Path.{◌∙◌}
use native.Mathlib.Omega.{arith}
use Rattle.image.proofs.FreshLaid.{own_first, own_turn}
use Rattle.image.proofs.making.set_own.Goals as goal

pub loop-i-init : goal.loop-i-init
loop-i-init c = let p = c.requires in (c.told-b, λ t l e. own_first _ t l e)

pub loop-i-preserved : goal.loop-i-preserved
loop-i-preserved c =
    let v = c.loop-i in
    (c.put_byte.auto.out ∙ v.invariant.0, λ t l e. own_turn _ t v.i _ (omega arith) c.byte_at-own.ensures (v.invariant.1 t l e) c.put_byte.ensures)
