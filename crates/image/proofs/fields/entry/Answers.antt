use native.Mathlib.Omega.{arith}
use mathlib.Core.Path.{◌∙◌}
use Rattle.image.proofs.ReadOff.{entry_of, entry-none}
use Rattle.image.proofs.fields.entry.Goals as goal

pub returns-then-i-gt15 : goal.returns-then-i-gt15
returns-then-i-gt15 c = λ t h. entry-none t h _ _ c.place-i.ensures c.if-i-gt15.true

pub returns : goal.returns
returns c = λ t h. c.task_in.ensures ∙ entry_of t h _ _ c.place-i.ensures (omega (arith, c.if-i-gt15.false))
