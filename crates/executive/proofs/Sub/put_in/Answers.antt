use Rattle.std.proofs.Common.{arith}
use Rattle.std.proofs.lemmas.Grind.{common_steps}
use Rattle.executive.specs.Subprograms.{put_in}
use Rattle.executive.proofs.Sub.put_in.Goals as goal

pub returns-then-at-n : goal.returns-then-at-n
unfolding put_in
returns-then-at-n c = grind (arith, common_steps)

pub returns-else-n-lt16 : goal.returns-else-n-lt16
unfolding put_in
returns-else-n-lt16 c = grind (arith, common_steps)
