-- `glyphs::text` meets its contract: the part behind the place becomes the text, where it fits.
use Rattle.std.proofs.Common.{sym, ◌∙◌}
use borrow.Author.Tests.{leb-true, leb-false}
use Rattle.text.proofs.Adding.{part_put, puts_none}
use Rattle.text.proofs.glyphs.text.Goals as goal

pub returns-then-not-has_room : goal.returns-then-not-has_room
returns-then-not-has_room c =
    let s = c.args in
    puts_none s.out.now s.at s.bytes.now (leb-false _ _ (sym c.has_room.ensures ∙ c.if-not-has_room.true))

pub returns : goal.returns
returns c =
    let s = c.args in
    let room = leb-true _ _ (sym c.has_room.ensures ∙ c.if-not-has_room.false) in
    part_put s.out.now s.at s.bytes.now room c.copy_from_slice.ensures.after
