-- `images::put_numbers` meets its contract.
use Prim.Native.Nat.{◌*◌}
use mathlib.Core.Path.{refl}
use native.Mathlib.Omega.{arith}
use Rattle.scan.specs.Entries.{no_entry}
use Rattle.image.proofs.Assured.{row-start, row-turn, row-end}
use Rattle.scan_board.specs.Image.{arrival_bytes}
use Rattle.scan_board.proofs.Pieces.{wrote-numbers}
use Rattle.scan_board.proofs.images.put_numbers.Goals as goal

pub loop-i-init : goal.loop-i-init
loop-i-init c = row-start arrival_bytes 4 (λ x. refl) c.args.out.now c.args.entries 0

pub loop-i-preserved : goal.loop-i-preserved
loop-i-preserved c =
    let v = c.loop-i in
    let r = c.put_number in
    row-turn arrival_bytes 4 (λ x. refl) c.args.out.now v.out r.new.out c.args.entries 0 v.i (v.i * 4) no_entry v.invariant (omega arith) r.ensures (omega arith) (omega (arith, c.requires))

pub returns : goal.returns
returns c =
    let v = c.loop-i in
    let e = row-end arrival_bytes 4 (λ x. refl) c.args.out.now v.out c.args.entries 0 v.i v.invariant (omega (arith, c.loop-i-test.false)) in
    (omega arith, wrote-numbers c.args.out.now c.args.entries c.args.last (omega arith) c.requires e c.put_number-2.ensures)
