use Rattle.std.proofs.Common.{rules, tests, refl, ltb, sym, ◌∙◌}
use Rattle.std.proofs.lemmas.List.Recursion.{is_position_or_len}
use Rattle.executive.specs.Queue.{behind}
use Rattle.executive.specs.Messages.{stay_ahead, urgency}
use Rattle.executive.proofs.Lists.Positions.{place-slice, until_less}
use Rattle.executive.proofs.messages.ahead.Goals as goal

pub returns : goal.returns
unfolding stay_ahead behind
returns c =
    let a = c.args in
    c.unwrap_or.ensures
    ∙ place-slice (λ m. ltb m.priority a.p) _ _ c.position.ensures.ran (search rules) (λ x b q k. search (rules, tests))
    ∙ sym (is_position_or_len (stay_ahead urgency a.p) _ refl (λ x xs. until_less a.p x.priority _) a.letters.now)
