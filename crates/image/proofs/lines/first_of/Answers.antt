use Rattle.image.proofs.Finds.{first-nobody, first-waits}
use Rattle.image.proofs.lines.first_of.Goals as goal

pub returns-then-b-base-eq0 : goal.returns-then-b-base-eq0
returns-then-b-base-eq0 c = λ t l. first-nobody t l c.args.m.0 c.requires c.if-b-base-eq0.true

pub returns : goal.returns
returns c = λ t l. first-waits t l c.args.m.0 c.requires c.if-b-base-eq0.false
