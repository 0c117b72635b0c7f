use mathlib.Core.Path.{refl}
use Rattle.scan.specs.Moves.{apply_scan}
use Rattle.scan.proofs.Scanned.execute.Goals as goal

pub returns : goal.returns
unfolding apply_scan
returns c = rw (c.enter_all-done.ensures, c.left.ensures) refl
