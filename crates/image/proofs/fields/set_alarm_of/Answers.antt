use native.Mathlib.Omega.{arith}
use Rattle.image.proofs.fields.set_alarm_of.Goals as goal

pub returns-then-f-gt31 : goal.returns-then-f-gt31
returns-then-f-gt31 c = λ t h g. absurd (omega (arith, g, c.if-f-gt31.true))

pub returns : goal.returns
returns c = λ t h g. c.set_alarm.ensures t h
