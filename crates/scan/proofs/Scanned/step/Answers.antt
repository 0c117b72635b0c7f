use mathlib.Core.Path.{sym, ap, ◌∙◌}
use Rattle.scan.specs.Step.{refused_scan}
use Rattle.scan.proofs.Stepping.{step-broken}
use Rattle.scan.proofs.Scanned.step.Goals as goal

pub perform-requires : goal.perform-requires
perform-requires c = sym c.arrivals_right.ensures ∙ c.if-arrivals_right.true

pub returns-then-arrivals_right : goal.returns-then-arrivals_right
returns-then-arrivals_right c = c.perform.ensures

pub returns : goal.returns
returns c = c.refuse.ensures ∙ ap (refused_scan c.args.self) c.into.ensures ∙ step-broken c.args.self c.args.bytes.now (sym c.arrivals_right.ensures ∙ c.if-arrivals_right.false)
