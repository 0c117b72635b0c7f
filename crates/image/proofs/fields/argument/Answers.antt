use mathlib.Core.Path.{ap, ◌∙◌}
use native.Mathlib.Omega.{arith}
use Rattle.executive.specs.declared.Task.{Task}
use Rattle.image.proofs.ReadOff.{argument-of, entry-none}
use Rattle.image.proofs.fields.argument.Goals as goal

pub returns-then-i-gt15 : goal.returns-then-i-gt15
returns-then-i-gt15 c = λ t l. ap (λ (x : Task). x.argument) (entry-none t l _ _ c.place-i.ensures c.if-i-gt15.true)

pub returns : goal.returns
returns c = λ t l. c.pair_in.ensures ∙ argument-of t l _ _ c.place-i.ensures (omega (arith, c.if-i-gt15.false))
