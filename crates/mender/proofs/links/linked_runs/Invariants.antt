use Prim.Native.Nat.{◌-◌}
use mathlib.Core.Path.{◌≡◌}
use Rattle.executive.specs.Lists.{each}
use Rattle.mender.specs.Links.{runs_of}
use Rattle.mender.specs.Passes.{run_turn, linked_runs}
use Rattle.mender.proofs.links.linked_runs.Given as goal

abbrev pub invariant-loop-i : goal.invariant-loop-i
invariant-loop-i l = each (run_turn l.count) (16 - l.i) l.i (runs_of l.tasks l.named) ≡ linked_runs l.count l.fn.tasks
