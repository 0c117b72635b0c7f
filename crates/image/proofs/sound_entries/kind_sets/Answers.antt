-- `sound_entries::kind_sets` meets its contract. The invariant: the sets are those of the first k tasks.
use Prim.Native.Nat.{◌*◌, ◌^◌, ◌%◌, ◌<◌}
use mathlib.Core.Path.{◌≡◌}
use native.Mathlib.Omega.{arith}
use native.Mathlib.Nat.{one-mul, mod-eq_of_lt}
use lib.Pow.{pow-lt}
use Rattle.executive.specs.States.{is_of}
use Rattle.image.specs.Sound.{tasks_in}
use Rattle.image.proofs.Marked.{sets_none, kinds-one}
use Rattle.image.proofs.sound_entries.kind_sets.Goals as goal

pub loop-k-init : goal.loop-k-init
loop-k-init c = sets_none 10 is_of (tasks_in c.args.b.now)

pub loop-k-preserved : goal.loop-k-preserved
loop-k-preserved c =
    let v = c.loop-k in
    let h : v.k < 16 = omega (arith, c.requires.0) in
    let bit : 1 * 2 ^ v.k % 65536 ≡ 2 ^ v.k = simp (one-mul, mod-eq_of_lt (pow-lt {j = 16} h)) in
    kinds-one c.args.b.now v.k h v.sets v.invariant _ bit (c.requires.1 v.k c.loop-k-test.true)

pub returns : goal.returns
returns c = let e : c.loop-k.k ≡ c.args.count = omega arith in rw e at c.loop-k.invariant
