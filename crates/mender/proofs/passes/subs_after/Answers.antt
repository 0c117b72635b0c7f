use Rattle.std.proofs.Common.{rules}
use Rattle.executive.specs.Subprograms.{no_subprogram}
use Rattle.mender.specs.Passes.{sub_after}
use Rattle.mender.proofs.CodeRows.{mapped_row}
use Rattle.mender.proofs.passes.subs_after.Goals as goal

pub returns : goal.returns
returns c =
    let a = c.args in
    mapped_row (sub_after a.count a.tasks) no_subprogram no_subprogram 8 (λ x y q k. search rules) c.map.ensures.items
