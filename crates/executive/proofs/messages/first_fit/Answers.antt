use Rattle.std.proofs.Common.{rules, tests, ◌∙◌}
use Rattle.executive.specs.Messages.{fits}
use Rattle.executive.proofs.Lists.Positions.{place-slice, place-next}
use Rattle.executive.proofs.messages.first_fit.Goals as goal

pub returns : goal.returns
returns c =
    let a = c.args in
    c.unwrap_or.ensures
    ∙ place-slice (fits a.k.0 a.s.0) _ _ c.position.ensures.ran (search rules) (λ x b q k. search (rules, tests))
    ∙ place-next _ a.letters.now
