use mathlib.Core.Path.{sym, ◌∙◌}
use native.Mathlib.Omega.{arith}
use Rattle.executive.specs.Decisions.{rung_in}
use Rattle.executive.proofs.Lists.Loops.{each-end}
use Rattle.executive.proofs.clock.Alarms.{in_on, in_turn, in_pass}
use Rattle.executive.proofs.clock.rings.Goals.{then-is_due, else-is_due}
use Rattle.executive.proofs.clock.rings.Goals as goal

pub loop-i-init : goal.loop-i-init
loop-i-init c = let a = c.args in sym (in_on a.now a.alarms.now a.flags (omega arith) 0 a.first (omega arith) c.requires).3

pub loop-i-preserved : goal.loop-i-preserved
loop-i-preserved c =
    let a = c.args in
    let v = c.loop-i in
    let u = c.loop-i-test.true in
    elim c.if-is_due.branch [
      | then-is_due w ↦ rw (w.more-is, w.bit_of-more.ensures) (sym (in_turn a.now a.alarms.now v.more v.i u (sym c.is_due.ensures ∙ w.if-is_due.true)) ∙ v.invariant)
      | else-is_due w ↦ rw w.more-is (sym (in_pass a.now a.alarms.now v.more v.i u (sym c.is_due.ensures ∙ w.if-is_due.false)) ∙ v.invariant)
    ]

pub returns : goal.returns
returns c = let a = c.args in let v = c.loop-i in sym (each-end (rung_in a.now.0 a.alarms.now) 32 v.i v.more c.loop-i-test.false) ∙ v.invariant
