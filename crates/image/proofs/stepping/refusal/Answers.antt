use mathlib.Core.Path.{◌∙◌}
use Rattle.image.proofs.Stepwise.{refused-one, refused-other}
use Rattle.image.proofs.stepping.refusal.Goals as goal

pub returns-then-number-eq1 : goal.returns-then-number-eq1
returns-then-number-eq1 c = λ t l. c.no_table.ensures ∙ refused-one t _ c.if-number-eq1.true

pub returns : goal.returns
returns c = λ t l. refused-other t _ _ _ _ c.if-number-eq1.false c.has_v-v.ensures c.marked-m.ensures (c.answer.ensures t l)
