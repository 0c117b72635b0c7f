use Rattle.std.proofs.Common.{rules}
use Rattle.executive.specs.Places.{never}
use Rattle.mender.specs.Passes.{alarm_after}
use Rattle.mender.proofs.CodeRows.{mapped_row}
use Rattle.mender.proofs.passes.alarms_after.Goals as goal

pub returns : goal.returns
returns c =
    let a = c.args in
    mapped_row (alarm_after a.now.0) never never 32 (λ x y q k. search rules) c.map.ensures.items
