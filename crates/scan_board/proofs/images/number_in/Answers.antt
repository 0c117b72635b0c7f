-- `images::number_in` meets its contract: there are four bytes.
use Prim.Native.Nat.{◌+◌, ◌*◌}
use mathlib.Core.Path.{refl, ◌∙◌}
use lib.ListN.{length}
use borrow.Author.Tests.{le-ltb}
use Rattle.scan_board.proofs.images.number_in.Goals as goal

pub returns : goal.returns
returns c =
    let a = c.args in
    c.number_at.ensures ∙ rw (le-ltb (length a.bytes.now) (a.i * 4 + 4) c.requires) refl
