use mathlib.Core.Path.{◌≡◌}
use Prim.Native.Nat.{◌-◌}
use Rattle.executive.specs.Clock.{rung}
use Rattle.executive.specs.Lists.{each}
use Rattle.executive.proofs.Rest.advance.Given as goal

abbrev pub invariant-loop-i : goal.invariant-loop-i
invariant-loop-i l = each rung (32 - l.i) l.i l.self ≡ each rung 32 0 l.initial.self
