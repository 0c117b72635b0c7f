use mathlib.Core.Path.{sym, ◌∙◌}
use Rattle.std.proofs.Common.{rules}
use Rattle.executive.specs.Check.{is_quiet, is_lone}
use Rattle.executive.proofs.Lists.Chains.{all_of-slice}
use Rattle.executive.proofs.check.Passes.{quiet-right}
use Rattle.executive.proofs.waiters.waiters_right.Goals as goal

pub returns-then-all-2 : goal.returns-then-all-2
returns-then-all-2 c =
    sym (quiet-right c.args.tasks.now c.args.asked.now
    (sym (all_of-slice is_quiet c.args.tasks.now _ c.all.ensures.ran (search rules) (λ x b q k. search rules)) ∙ c.if-all.true)
    (sym (all_of-slice is_lone c.args.asked.now _ c.all-then-all.ensures.ran (search rules) (λ x b q k. search rules)) ∙ c.if-all-2.true)
    c.args.count)
