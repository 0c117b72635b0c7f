-- `sound_entries::time_right` meets its contract.
use mathlib.Core.Path.{ap, ◌∙◌}
use Prim.Native.Nat.{ℕ}
use Rattle.executive.specs.Check.{is_stored}
use Rattle.image.proofs.sound_entries.time_right.Goals as goal

pub returns : goal.returns
returns c = c.is_stored.ensures ∙ ap (λ (x : ℕ). is_stored c.args.time.0 x) c.long_in-at.ensures
