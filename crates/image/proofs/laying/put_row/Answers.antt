-- `laying::put_row` meets its contract. The invariant: the blocks up to i are written, and nothing else, and each has its width.
use Prim.Native.Nat.{◌+◌, ◌*◌, ◌≤◌, ◌<◌}
use mathlib.Core.Path.{◌≡◌, ap}
use native.Mathlib.Omega.{arith}
use native.Mathlib.Numerals.{add-one}
use lib.ListN.{length, get_or}
use Rattle.image.proofs.Spans.{each_more, Wide, row-begun, row-turned, block-within}
use Rattle.image.proofs.laying.put_row.Goals as goal

pub loop-i-init : goal.loop-i-init
loop-i-init g c = (row-begun g.T.Block.bytes g.T.Block.WIDTH c.args.out.now c.args.blocks.now c.args.at, tt)

pub loop-i-preserved : goal.loop-i-preserved
loop-i-preserved g c =
    let b = g.T.Block in
    let a = c.args in
    let v = c.loop-i in
    let x = c.index-blocks-i.result in
    let e : x ≡ get_or a.blocks.now v.i x = c.index-blocks-i.is in
    let h : v.i < length a.blocks.now = c.loop-i-test.true in
    let wide : Wide b.bytes b.WIDTH (get_or a.blocks.now v.i x) = rw e at c.put.ensures.width in
    let k : a.at + v.i * b.WIDTH + b.WIDTH ≤ length a.out.now = omega (arith, block-within v.i (length a.blocks.now) b.WIDTH h, c.requires) in (
      row-turned b.bytes b.WIDTH a.out.now v.out c.put.new.out a.blocks.now a.at v.i _ x v.invariant.1 wide v.invariant.0
          (ap (λ n. a.at + v.i * n) c.WIDTH.ensures) (rw e at c.put.ensures.value) h k,
      rw add-one (each_more (Wide b.bytes b.WIDTH) v.i a.blocks.now x v.invariant.1 wide h),
    )
