use mathlib.Core.Path.{◌≡◌, ap, sym, ◌∙◌}
use native.Mathlib.Omega.{arith}
use Prim.Native.Nat.{◌+◌}
use Rattle.executive.specs.Clock.{is_due, rung, advanced}
use Rattle.executive.specs.Lists.{each, next_of}
use Rattle.executive.specs.Decisions.{first_due}
use Rattle.executive.proofs.Lists.Loops.{each-end}
use Rattle.executive.proofs.clock.Alarms.{ringing, ring-on, ring-turn, ring-pass}
use Rattle.executive.proofs.Rest.advance.Goals.{then-is_due, else-is_due}
use Rattle.executive.proofs.Rest.advance.Goals as goal

pub loop-i-init : goal.loop-i-init
unfolding first_due
loop-i-init c =
    let g = c.granule_of in
    let a = c.args.self in
    let e : c.args.first ≡ next_of (is_due (a.clock.0 + g.result.0)) 0 a.alarms = rw g.ensures c.requires.1 in
    sym (ring-on a (record { 0 = a.clock.0 + g.result.0 }) a.alarms a.flags (omega arith) 0 c.args.first (omega arith) e).3

pub loop-i-preserved : goal.loop-i-preserved
loop-i-preserved c =
    let v = c.loop-i in
    let r = v.self in
    let u = c.loop-i-test.true in
    elim c.if-is_due.branch [
      | then-is_due w ↦ rw (w.self-is, w.bit_of.ensures) (sym (ring-turn r r.clock r.alarms r.flags v.i u (sym c.is_due.ensures ∙ w.if-is_due.true)) ∙ v.invariant)
      | else-is_due w ↦ rw w.self-is (sym (ring-pass r r.clock r.alarms r.flags v.i u (sym c.is_due.ensures ∙ w.if-is_due.false)) ∙ v.invariant)
    ]

pub returns : goal.returns
unfolding advanced
returns c =
    let a = c.args.self in
    let v = c.loop-i in
    sym (each-end rung 32 v.i v.self c.loop-i-test.false)
    ∙ v.invariant
    ∙ ap (λ n. each rung 32 0 (ringing a (record { 0 = a.clock.0 + n }) a.alarms a.flags)) c.granule_of.ensures
