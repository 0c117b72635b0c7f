-- `fresh` meets its contract: its three outcomes are the definition's.
use mathlib.Core.Path.{sym, ◌∙◌}
use native.Mathlib.Omega.{arith}
use Rattle.image.proofs.Answered.{fresh-length, fresh-refused, fresh-made}
use Rattle.image.proofs.fresh.Goals as goal

pub returns-in_default : goal.returns-in_default
returns-in_default c =
    let a = c.args in
    let e = fresh-length a.config.now a.image.now c.in_default.ensures.cases in
    record { number = e.0; image = e.1; holds = λ z. absurd (omega arith) }

pub returns-then-not-is_configuration : goal.returns-then-not-is_configuration
returns-then-not-is_configuration c =
    let a = c.args in
    let e = fresh-refused a.config.now a.image.now c.in-Some.ensures.cases.long (sym c.is_configuration.ensures ∙ c.if-not-is_configuration.true) in
    record { number = e.0; image = c.in-Some.ensures.cases.same ∙ e.1; holds = λ z. absurd (omega arith) }

pub returns : goal.returns
returns c =
    let a = c.args in
    fresh-made a.config.now a.image.now c.in-Some.ensures.cases.long (sym c.is_configuration.ensures ∙ c.if-not-is_configuration.false) c.make.ensures
