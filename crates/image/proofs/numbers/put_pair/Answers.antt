-- `numbers::put_pair` meets its contract: the bytes of the number, a store each.
use mathlib.Core.Path.{◌≡◌, ◌∙◌}
use native.Mathlib.Omega.{arith}
use Rattle.records.specs.Numbers.{bytes_in}
use Rattle.image.proofs.Digits.{be-two}
use Rattle.image.proofs.Spans.{stored-two}
use Rattle.image.proofs.numbers.put_pair.Goals as goal

pub returns : goal.returns
returns c =
    let a = c.args in
    let e : c.to_be_bytes.result ≡ bytes_in 2 a.x = c.to_be_bytes.ensures ∙ be-two a.x (omega arith) in
    rw e (stored-two a.out.now a.at _ _ c.requires)
