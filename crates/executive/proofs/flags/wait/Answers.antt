use mathlib.Core.Path.{refl}
use Rattle.executive.specs.Decisions.{wait_deed}
use Rattle.executive.proofs.flags.wait.Goals as goal

pub returns-then-is_met : goal.returns-then-is_met
unfolding wait_deed
returns-then-is_met c = rw (c.accepted.ensures, c.nothing-still.ensures, c.only_z-z.ensures, ← c.bad_wait.ensures, c.if-bad_wait.false, ← c.mode_of-m.ensures, ← c.is_met.ensures, c.if-is_met.true) refl

pub returns : goal.returns
unfolding wait_deed
returns c = rw (c.accepted-2.ensures, c.alone-deed.ensures, c.only_z-marks.ensures, ← c.bad_wait.ensures, c.if-bad_wait.false, ← c.mode_of-m.ensures, ← c.is_met.ensures, c.if-is_met.false) refl
