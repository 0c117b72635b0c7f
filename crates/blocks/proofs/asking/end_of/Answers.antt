-- `asking::end_of` meets its contract: the byte before the record is its length.
use mathlib.Core.Path.{◌≡◌, ap, ◌∙◌}
use native.Mathlib.Omega.{arith}
use Prim.Native.Nat.{◌+◌, ◌*◌, ◌-◌}
use lib.ListN.{get_or}
use Rattle.blocks.specs.Asking.{count_in}
use Rattle.blocks.proofs.asking.end_of.Goals as goal

pub returns : goal.returns
returns c =
    let q = c.args.head.now in
    let r = c.record_at-from.ensures.0 in
    let e : c.record_at-from.result - 1 ≡ 8 + 2 * count_in q = omega arith in
    let x = c.byte_at-length.ensures ∙ ap (λ n. get_or q n 0) e in
    omega arith
