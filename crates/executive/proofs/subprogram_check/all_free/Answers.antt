use lib.Dec.{eqb}
use mathlib.Core.Path.{◌∙◌}
use native.Mathlib.Omega.{arith}
use Rattle.executive.specs.Check.{is_free_sub}
use Rattle.executive.proofs.check.Subprograms.{placeless}
use Rattle.executive.proofs.check.PutTogether.{every_put}
use Rattle.executive.proofs.subprogram_check.all_free.Goals as goal

pub loop-s-preserved : goal.loop-s-preserved
loop-s-preserved c =
    let v = c.loop-s in
    every_put is_free_sub placeless c.args.subs.now v.s-index (eqb v.all 0) _ (omega arith) c.with_all-all.ensures ∙ v.invariant
