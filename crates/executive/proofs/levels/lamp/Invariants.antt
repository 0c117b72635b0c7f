use mathlib.Core.Path.{◌≡◌}
use Rattle.executive.specs.Lamp.{lamp_below, lamp_of}
use Rattle.executive.proofs.levels.lamp.Given as goal

abbrev pub invariant-loop-p : goal.invariant-loop-p
invariant-loop-p l = lamp_below l.levels l.p ≡ lamp_of l.levels
