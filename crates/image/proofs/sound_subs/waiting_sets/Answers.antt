-- `sound_subs::waiting_sets` meets its contract. The invariant: k is one who waits or past them all, and these are the sets of those before k.
use Prim.Native.Nat.{◌*◌, ◌%◌, ◌^◌, ◌<◌, min}
use mathlib.Core.Path.{◌≡◌}
use native.Mathlib.Omega.{arith}
use native.Mathlib.Nat.{one-mul, mod-eq_of_lt}
use lib.Pow.{pow-lt}
use Rattle.image.specs.Sound.{tasks_in}
use Rattle.image.specs.Marks.{Waiting}
use Rattle.image.proofs.LinesRead.{waiting-first, waiting-next, waiting-kind, waiting-past, waiting-one}
use Rattle.image.proofs.sound_subs.waiting_sets.Goals as goal
use Rattle.image.proofs.sound_subs.waiting_sets.Goals.{then-m-lt8, else-m-lt8}

pub loop-k-init : goal.loop-k-init
loop-k-init c =
    let a = c.args in
    let g = c.requires in
    let r = c.next_in-k.ensures in
    (r.most, r.member, waiting-first a.b.now a.count a.waiters g.0 g.2 c.next_in-k.result r)

pub loop-k-preserved : goal.loop-k-preserved
loop-k-preserved c =
    let s = c.args.b.now in
    let a = c.args in
    let g = c.requires in
    let v = c.loop-k in
    let l = c.loop-k-test.true in
    let h : v.k < 16 = omega (arith, g.0, l) in
    let bit : 1 * 2 ^ v.k % 65536 ≡ 2 ^ v.k = simp (one-mul, mod-eq_of_lt (pow-lt {j = 16} h)) in
    let e : min v.k a.count ≡ v.k = omega (arith, l) in
    let w₀ : Waiting v.k v.sets (tasks_in s) = rw e at v.invariant.2 in
    let q = waiting-kind s a.count a.waiters g.0 g.2 g.1 v.k l (v.invariant.1 (omega arith)) in (
      c.next_in-k-in-loop-k.ensures.most,
      c.next_in-k-in-loop-k.ensures.member,
      waiting-next s a.count a.waiters g.0 g.2 v.k c.next_in-k-in-loop-k.result c.if-m-lt8.sets l c.next_in-k-in-loop-k.ensures
          (elim c.if-m-lt8.branch [
            | then-m-lt8 w ↦ rw w.sets-is (waiting-one s v.k h q v.sets w₀ (1 * 2 ^ v.k % 65536) bit w.if-m-lt8.true)
            | else-m-lt8 w ↦ rw w.sets-is (waiting-past s v.k h q v.sets w₀ w.if-m-lt8.false)
          ]),
    )

pub returns : goal.returns
returns c =
    let a = c.args in
    let v = c.loop-k in
    let e : min v.k a.count ≡ a.count = omega (arith, c.loop-k-test.false) in
    rw e at v.invariant.2
