use Rattle.std.proofs.Common.{rules}
use Rattle.executive.specs.Check.{waiters_at}
use Rattle.executive.proofs.Lists.Chains.{up_to-range}
use Rattle.executive.proofs.waiters.all_waiters.Goals as goal

pub returns : goal.returns
returns c = up_to-range (waiters_at c.args.tasks.now c.args.asked.now) c.args.count _ c.all.ensures.ran (search rules) (λ x b q k. search rules)
