-- `storing::put_all_awaited` meets its contract. The invariant: the numbers up to i are written, and nothing else.
use Prim.Native.Nat.{◌+◌}
use mathlib.Core.Path.{refl}
use native.Mathlib.Omega.{arith}
use Rattle.executive.specs.Places.{no_task}
use Rattle.image.specs.Image.{awaited_bytes, awaited_at}
use Rattle.image.proofs.Spans.{row-start, row-turn}
use Rattle.image.proofs.storing.put_all_awaited.Goals as goal

pub loop-i-init : goal.loop-i-init
loop-i-init c = row-start awaited_bytes 1 (λ x. refl) c.args.out.now c.args.tasks.now awaited_at

pub loop-i-preserved : goal.loop-i-preserved
loop-i-preserved c =
    let a = c.args in
    let v = c.loop-i in
    row-turn awaited_bytes 1 (λ x. refl) a.out.now v.out c.put_awaited.new.out a.tasks.now awaited_at v.i (awaited_at + v.i) no_task
    v.invariant (omega arith) c.put_awaited.ensures (omega arith) (omega (arith, c.told-out))
