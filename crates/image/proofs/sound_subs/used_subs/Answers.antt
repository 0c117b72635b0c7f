-- `sound_subs::used_subs` meets its contract. The invariant: it is the set of those before m that are not free.
use mathlib.Core.Path.{sym}
use native.Mathlib.Omega.{arith}
use Rattle.image.proofs.LinesRead.{used-more, used-not}
use Rattle.image.proofs.Marked.{marks-first, one_same}
use Rattle.image.proofs.sound_subs.used_subs.Goals as goal
use Rattle.image.proofs.sound_subs.used_subs.Goals.{then-sixteen-quad-ne0, else-sixteen-quad-ne0}

pub loop-m-init : goal.loop-m-init
loop-m-init c = marks-first _

pub loop-m-preserved : goal.loop-m-preserved
loop-m-preserved c =
    let s = c.args.b.now in
    let a = c.args in
    let v = c.loop-m in
    elim c.if-sixteen-quad-ne0.branch [
      | then-sixteen-quad-ne0 w ↦ rw w.used-is (used-more s a.sets v.m v.used v.invariant c.sixteen.result c.quad.result c.sixteen.ensures c.quad.ensures.result_value w.bit_of-used.result w.bit_of-used.ensures w.if-sixteen-quad-ne0.true)
      | else-sixteen-quad-ne0 w ↦ rw w.used-is (used-not s a.sets v.m v.used v.invariant c.sixteen.result c.quad.result c.sixteen.ensures c.quad.ensures.result_value w.if-sixteen-quad-ne0.false)
    ]

pub returns : goal.returns
returns c = λ m h. one_same _ _ (sym (c.loop-m.invariant.told m (omega arith)))
