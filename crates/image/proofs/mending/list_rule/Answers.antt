-- `mending::list_rule` meets its contract: plain bytes give no rule of their own, others the stray bytes'.
use mathlib.Core.Path.{sym, ◌∙◌}
use Rattle.image.proofs.Noted.{rule-plain, rule-stray}
use Rattle.image.proofs.mending.list_rule.Goals as goal

pub returns-then-is_plain : goal.returns-then-is_plain
returns-then-is_plain c =
    let a = c.args in
    c.rule_for.ensures ∙ rule-plain a.bytes.now a.list.now a.i (sym c.is_plain.ensures ∙ c.if-is_plain.true)

pub returns : goal.returns
returns c =
    let a = c.args in
    c.rule_for-2.ensures ∙ rule-stray a.bytes.now a.list.now a.i (sym c.is_plain.ensures ∙ c.if-is_plain.false)
