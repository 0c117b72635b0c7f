use Rattle.image.proofs.Stepwise.{idle-is, active-is}
use Rattle.image.proofs.stepping.active.Goals as goal

pub returns-then-b-eq0 : goal.returns-then-b-eq0
returns-then-b-eq0 c = λ t l. idle-is t l c.if-b-eq0.true

pub returns : goal.returns
returns c = λ t l. active-is t l c.if-b-eq0.false
