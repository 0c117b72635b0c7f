use mathlib.Core.Path.{◌≡◌}
use Prim.Native.Nat.{◌-◌}
use Rattle.executive.specs.Lists.{each}
use Rattle.executive.specs.Decisions.{rung_in}
use Rattle.executive.proofs.clock.rings.Given as goal

abbrev pub invariant-loop-i : goal.invariant-loop-i
invariant-loop-i l = each (rung_in l.now.0 l.alarms) (32 - l.i) l.i l.more ≡ each (rung_in l.now.0 l.alarms) 32 0 l.flags
