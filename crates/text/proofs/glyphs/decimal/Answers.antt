-- `glyphs::decimal` meets its contract: it asks for the room that all digits take.
use Rattle.std.proofs.Common.{sym, ◌∙◌}
use borrow.Author.Tests.{leb-true, leb-false}
use Rattle.text.specs.Glyphs.{decimal_of}
use Rattle.text.proofs.Adding.{adds-puts, puts_none}
use Rattle.text.proofs.glyphs.decimal.Goals as goal

pub returns-then-not-has_room : goal.returns-then-not-has_room
returns-then-not-has_room c =
    let s = c.args in
    puts_none s.out.now s.at (decimal_of s.n) (leb-false _ _ (rw (← c.digit_count-count.ensures) (sym c.has_room.ensures ∙ c.if-not-has_room.true)))

pub returns : goal.returns
returns c =
    adds-puts c.args.out.now c.args.at (decimal_of c.args.n)
    (leb-true _ _ (rw (← c.digit_count-count.ensures) (sym c.has_room.ensures ∙ c.if-not-has_room.false))) c.digits.ensures
