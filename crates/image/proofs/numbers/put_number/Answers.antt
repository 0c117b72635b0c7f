-- `numbers::put_number` meets its contract: the two outcomes by the buffer's length.
use Prim.Native.Nat.{◌+◌, ◌*◌}
use mathlib.Core.Path.{refl, ◌∙◌}
use native.Mathlib.Omega.{arith}
use lib.ListN.{length}
use borrow.Author.Tests.{lt-ltb, le-ltb}
use Rattle.image.proofs.numbers.put_number.Goals as goal

pub returns-then-out-at : goal.returns-then-out-at
returns-then-out-at c = let a = c.args in rw (lt-ltb (length a.out.now) (a.i * 4 + 4) c.if-out-at.true) refl

pub returns : goal.returns
returns c =
    let a = c.args in
    c.put_word.ensures ∙ rw (le-ltb (length a.out.now) (a.i * 4 + 4) (omega arith)) refl
