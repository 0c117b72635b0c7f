-- `sound_post::one_mail` meets its contract: none, one out of range, another.
use Prim.Native.Nat.{◌+◌, ◌*◌}
use mathlib.Core.Path.{sym, ◌∙◌}
use borrow.Author.Tests.{eq-eqb, ne_eqb}
use Rattle.image.proofs.Noughts.{or_byte}
use Rattle.image.proofs.PostRead.{mail-none, mail-out, mail-some}
use Rattle.image.proofs.sound_post.one_mail.Goals as goal

pub returns-then-eight-wide-eq0 : goal.returns-then-eight-wide-eq0
returns-then-eight-wide-eq0 c =
    let a = c.args in
    mail-none a.b.now a.count a.i c.requires (sym (or_byte a.b.now 8 (1411 + a.i * 9) c.eight.result c.wide.result c.eight.ensures c.wide.ensures) ∙ eq-eqb _ 0 c.if-eight-wide-eq0.true)

pub returns-then-count-b : goal.returns-then-count-b
returns-then-count-b c =
    let a = c.args in
    mail-out a.b.now a.count a.i c.requires c.if-count-b.true

pub returns : goal.returns
returns c =
    let a = c.args in
    mail-some a.b.now a.count a.i c.requires c.if-count-b.false (sym (or_byte a.b.now 8 (1411 + a.i * 9) c.eight.result c.wide.result c.eight.ensures c.wide.ensures) ∙ ne_eqb _ 0 c.if-eight-wide-eq0.false)
