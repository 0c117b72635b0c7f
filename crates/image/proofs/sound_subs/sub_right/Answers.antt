-- `sound_subs::sub_right` meets its contract: its tests, one after the other.
use mathlib.Core.Path.{sym, ◌∙◌}
use Rattle.image.proofs.LinesRead.{held_out, line-over, held-wrong, held-right}
use Rattle.image.proofs.sound_subs.sub_right.Goals as goal

pub returns-then-count-b : goal.returns-then-count-b
returns-then-count-b c = λ m k. held_out c.args.b.now c.args.at m c.args.count c.if-count-b.true

pub returns-then-b-at-gt16 : goal.returns-then-b-at-gt16
returns-then-b-at-gt16 c = λ m k. line-over c.args.b.now c.args.at m c.args.count c.if-count-b.false c.if-b-at-gt16.true

pub returns-then-not-holder_right : goal.returns-then-not-holder_right
returns-then-not-holder_right c = λ m k. held-wrong c.args.b.now c.args.at m c.args.count c.if-count-b.false c.if-b-at-gt16.false (sym c.holder_right.ensures ∙ c.if-not-holder_right.true)

pub returns : goal.returns
returns c = λ m k. held-right c.args.b.now c.args.at m c.args.count c.if-count-b.false c.if-b-at-gt16.false (sym c.holder_right.ensures ∙ c.if-not-holder_right.false) _ (c.line_right.ensures m k)
