-- `sound_entries::entries_right` meets its contract.
use mathlib.Core.Path.{refl}
use Rattle.std.proofs.Common.{rules}
use Rattle.image.specs.Sound.{sound_at}
use Rattle.image.proofs.Ranges.{checked-below}
use Rattle.image.proofs.sound_entries.entries_right.Goals as goal

pub returns : goal.returns
returns c =
    let a = c.args in
    checked-below _ _ c.all.result a.count (sound_at a.b.now a.count a.time.0 a.flags) refl (λ i y q e. search rules) c.all.ensures.ran
