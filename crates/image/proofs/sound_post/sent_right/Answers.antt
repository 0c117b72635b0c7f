-- `sound_post::sent_right` meets its contract: its tests, one after the other.
use mathlib.Core.Path.{sym, ◌∙◌}
use borrow.Author.Tests.{le-leb, lt-leb}
use Rattle.executive.proofs.Assured.{and_false_left, and_true_left}
use Rattle.image.specs.Sound.{tasks_in}
use Rattle.image.proofs.Noughts.{messages-nought}
use Rattle.image.proofs.PostRead.{not-waiting}
use Rattle.image.proofs.sound_post.sent_right.Goals as goal

pub returns-then-sent-gt32 : goal.returns-then-sent-gt32
returns-then-sent-gt32 c = and_false_left _ _ (lt-leb _ _ c.if-sent-gt32.true)

pub returns-then-not-letters_right : goal.returns-then-not-letters_right
returns-then-not-letters_right c = and_true_left _ _ _ (le-leb _ _ c.if-sent-gt32.false) (and_false_left _ _ (sym c.letters_right.ensures ∙ c.if-not-letters_right.true))

pub returns : goal.returns
returns c =
    let a = c.args in
    and_true_left _ _ _ (le-leb _ _ c.if-sent-gt32.false) (and_true_left _ _ _ (sym c.letters_right.ensures ∙ c.if-not-letters_right.false) (c.are_zero.ensures ∙ sym (messages-nought a.b.now a.sent c.if-sent-gt32.false)))

pub letters_right-requires : goal.letters_right-requires
letters_right-requires c =
    let a = c.args in
    (c.if-sent-gt32.false, c.requires.0, not-waiting (tasks_in a.b.now) a.count a.receivers c.requires.0 c.requires.1)
