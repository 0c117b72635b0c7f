use mathlib.Core.Path.{◌≡◌}
use Prim.Native.Nat.{◌*◌, ◌%◌}
use native.Mathlib.Nat.{mod-eq_of_lt}
use native.Mathlib.Omega.{arith}
use lib.Bits.{bit_and, and_mask}
use Rattle.executive.specs.Numbers.{longest}
use Rattle.executive.proofs.clock.Interval.{turned, step-within}
use Rattle.executive.proofs.clock.added_up.Goals as goal
use Rattle.executive.proofs.clock.added_up.Goals.{then-left-eq1, else-left-eq1}

pub loop-left-preserved : goal.loop-left-preserved
loop-left-preserved c =
    let v = c.loop-left in
    let p = c.requires in
    let s = step-within v.left v.step longest (omega arith) (omega (arith, v.invariant.1)) in
    let e : v.step * 2 % 18446744073709551616 ≡ v.step * 2 = mod-eq_of_lt (omega arith) in
    let m : bit_and v.left 1 ≡ v.left % 2 = and_mask v.left 1 in
    let r = v.invariant.1 in (
      omega arith,
      rw e (elim c.if-left-eq1.branch [
        | then-left-eq1 w ↦ omega (arith, turned v.left v.step 1 (omega arith))
        | else-left-eq1 w ↦ omega (arith, turned v.left v.step 0 (omega arith))
      ]),
    )
