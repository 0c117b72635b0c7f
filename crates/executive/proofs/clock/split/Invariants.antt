use Prim.Native.Nat.{◌+◌, ◌-◌}
use Rattle.executive.proofs.clock.Division.{Doubled, Divided}
use Rattle.executive.proofs.clock.split.Given as goal

abbrev pub invariant-loop-step : goal.invariant-loop-step
invariant-loop-step l = Doubled l.every.0 l.step

abbrev pub decreases-loop-step : goal.decreases-loop-step
decreases-loop-step l = l.length.0 + 1 - l.step

abbrev pub invariant-loop-step-2 : goal.invariant-loop-step-2
invariant-loop-step-2 l = Divided l.initial.rest l.every.0 l.step l.times l.rest

abbrev pub decreases-loop-step-2 : goal.decreases-loop-step-2
decreases-loop-step-2 l = l.step
