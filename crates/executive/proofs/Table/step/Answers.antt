use mathlib.Core.Path.{sym, ap, ◌∙◌}
use Rattle.executive.specs.Step.{refused}
use Rattle.executive.proofs.step.CodeIsStep.{step-queue}
use Rattle.executive.proofs.Table.step.Goals as goal

pub perform-requires : goal.perform-requires
perform-requires c = sym c.queue_right.ensures ∙ c.if-queue_right.true

pub returns : goal.returns
returns c = c.refuse.ensures ∙ ap (refused c.args.self) c.into.ensures ∙ step-queue c.args.self c.args.bytes.now (sym c.queue_right.ensures ∙ c.if-queue_right.false)
