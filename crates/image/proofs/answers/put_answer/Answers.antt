-- `answers::put_answer` meets its contract: its seven writes make one.
use mathlib.Core.Path.{◌∙◌}
use Rattle.image.proofs.Pieces.{mark-byte, wrote-answer}
use Rattle.image.proofs.answers.put_answer.Goals as goal

pub returns : goal.returns
returns c =
    let a = c.args.answer in
    wrote-answer c.args.out.now a _ _ _
    (c.from.ensures ∙ mark-byte a.z)
    (c.from-2.ensures ∙ mark-byte a.v)
    (c.from-3.ensures ∙ mark-byte a.c)
    c.put_both.ensures
    c.put_both-2.ensures
    c.put_both-3.ensures
    c.put_pair.ensures
    c.put_long.ensures
    c.put_byte.ensures
    c.put_long-2.ensures
    c.requires
