use Rattle.std.proofs.Common.{rules, tests, ◌∙◌}
use Rattle.executive.specs.Clock.{is_due}
use Rattle.executive.proofs.Lists.Positions.{place-slice, place-next}
use Rattle.executive.proofs.clock.first_due.Goals as goal

pub returns : goal.returns
returns c =
    let a = c.args in
    c.unwrap_or.ensures
    ∙ place-slice (is_due a.now.0) _ _ c.position.ensures.ran (search rules) (λ x b q k. search (rules, tests))
    ∙ place-next _ a.alarms.now
