use Rattle.std.proofs.Common.{rules}
use Rattle.executive.proofs.Lists.Chains.{all_of-slice}
use Rattle.executive.proofs.queue_check.all_nobody.Goals as goal

pub returns : goal.returns
returns c = all_of-slice _ _ _ c.all.ensures.ran (search rules) (λ x b q k. search rules)
