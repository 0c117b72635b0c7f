-- `numbers::put_word` meets its contract: the bytes of the number, a store each.
use mathlib.Core.Path.{◌≡◌, ◌∙◌}
use native.Mathlib.Omega.{arith}
use Rattle.records.specs.Numbers.{bytes_in}
use Rattle.image.proofs.Digits.{be-four}
use Rattle.image.proofs.Spans.{stored-four}
use Rattle.image.proofs.numbers.put_word.Goals as goal

pub returns : goal.returns
returns c =
    let a = c.args in
    let e : c.to_be_bytes.result ≡ bytes_in 4 a.x = c.to_be_bytes.ensures ∙ be-four a.x (omega arith) in
    rw e (stored-four a.out.now a.at _ _ _ _ c.requires)
