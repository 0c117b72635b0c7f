-- `numbers::put_long` meets its contract: two writes of four bytes make one.
use Prim.Native.Nat.{◌/◌, ◌%◌}
use mathlib.Core.Path.{ap, ◌∙◌}
use native.Mathlib.Omega.{arith}
use Rattle.records.specs.Numbers.{bytes_in}
use Rattle.image.specs.Blocks.{written}
use Rattle.image.proofs.Digits.{in_halves}
use Rattle.image.proofs.Spans.{and_then}
use Rattle.image.proofs.numbers.put_long.Goals as goal

pub returns : goal.returns
returns c =
    let a = c.args in
    let o = a.out.now in
    let p = bytes_in 4 (a.x / 4294967296) in
    let q = bytes_in 4 (a.x % 4294967296) in
    and_then o a.at p q c.put_word.ensures c.put_word-2.ensures (omega (arith, c.requires)) ∙ ap (written o a.at) (in_halves a.x)
