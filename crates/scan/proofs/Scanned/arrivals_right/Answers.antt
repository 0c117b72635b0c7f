use Rattle.scan.specs.Sound.{arrivals_right}
use Rattle.scan.proofs.Scanned.arrivals_right.Goals as goal

pub returns : goal.returns
unfolding arrivals_right
returns c = c.numbers_right.ensures
