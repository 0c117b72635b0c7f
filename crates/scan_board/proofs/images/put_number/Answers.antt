-- `images::put_number` meets its contract: there is room.
use Prim.Native.Nat.{◌+◌, ◌*◌}
use mathlib.Core.Path.{refl, ◌∙◌}
use lib.ListN.{length}
use borrow.Author.Tests.{le-ltb}
use Rattle.scan_board.proofs.images.put_number.Goals as goal

pub returns : goal.returns
returns c =
    let a = c.args in
    c.put_number.ensures ∙ rw (le-ltb (length a.out.now) (a.i * 4 + 4) c.requires) refl
