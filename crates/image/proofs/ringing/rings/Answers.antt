-- The flags once the due alarms have rung. The loop's invariant: i is 32 or the place of a due alarm, and what those from i on
-- make of the flags so far is what all make of the flags. The measure is what is left of the 32.
use mathlib.Core.Path.{sym, ◌∙◌}
use native.Mathlib.Omega.{arith}
use Prim.Native.Nat.{◌+◌, ◌^◌}
use lib.Bits.{bit_or}
use Rattle.executive.specs.Decisions.{rung_in}
use Rattle.executive.proofs.Assured.{each-end, in_on, in_turn}
use Rattle.image.proofs.ringing.rings.Goals as goal

pub loop-i-init : goal.loop-i-init
loop-i-init c =
    let a = c.args in (
      c.requires,
      λ t l r e.
          let h = in_on (record { 0 = a.time }) t.rest.alarms a.flags l.sizes.alarms 0 a.first (omega arith) e in
          (h.2, sym h.3),
    )

pub loop-i-preserved : goal.loop-i-preserved
loop-i-preserved c =
    let a = c.args in
    let v = c.loop-i in
    let u = c.loop-i-test.true in (
      c.next_due-i.ensures.lower_bound.1,
      λ t l r e.
          let m = v.invariant.1 t l r e in
          let h = in_on (record { 0 = a.time }) t.rest.alarms (bit_or v.more (2 ^ v.i)) l.sizes.alarms (v.i + 1) c.next_due-i.result (omega (arith, u)) (c.next_due-i.ensures.value t l r) in
          (h.2, rw c.bit_of-more.ensures (sym h.3 ∙ sym (in_turn (record { 0 = a.time }) t.rest.alarms v.more v.i u (m.0 u)) ∙ m.1)),
    )

pub returns : goal.returns
returns c =
    let a = c.args in
    let v = c.loop-i in
    λ t l r e. sym (each-end (rung_in a.time t.rest.alarms) 32 v.i v.more c.loop-i-test.false) ∙ (v.invariant.1 t l r e).1
