-- `storing::image_of` meets its contract: a table that code holds fits, and so its image loads to it.
use mathlib.Core.Path.{refl}
use Rattle.image.proofs.Owned.{table-owned}
use Rattle.image.proofs.Answered.{holds}
use Rattle.image.proofs.storing.image_of.Goals as goal

pub returns : goal.returns
returns c =
    let t = c.args.table in
    let e = c.put_table.ensures in
    record { image = e; holds = holds t t (table-owned t _ c.well_formed.0) refl e }
