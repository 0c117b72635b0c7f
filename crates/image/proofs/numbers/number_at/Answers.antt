-- `numbers::number_at` meets its contract: the two answers by the length of the bytes.
use Prim.Native.Nat.{◌+◌, ◌*◌}
use mathlib.Core.Path.{refl, ◌∙◌}
use lib.ListN.{length}
use borrow.Author.Tests.{lt-ltb, le-ltb}
use Rattle.image.proofs.numbers.number_at.Goals as goal

pub returns-then-bytes-at : goal.returns-then-bytes-at
returns-then-bytes-at c = let a = c.args in rw (lt-ltb (length a.bytes.now) (a.i * 4 + 4) c.if-bytes-at.true) refl

pub returns : goal.returns
returns c =
    let a = c.args in
    c.word_in.ensures ∙ rw (le-ltb (length a.bytes.now) (a.i * 4 + 4) c.if-bytes-at.false) refl
