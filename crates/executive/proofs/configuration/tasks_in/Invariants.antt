-- `executive::configuration::tasks_in` meets its contract.
use mathlib.Core.Path.{◌≡◌}
use Prim.Native.Nat.{◌+◌, ◌-◌}
use Rattle.executive.specs.Configuration.{tasks_from}
use Rattle.executive.proofs.configuration.tasks_in.Given as goal

abbrev pub invariant-loop-n : goal.invariant-loop-n
invariant-loop-n l = l.n + tasks_from l.s (16 - l.n) (l.n + 1) ≡ tasks_from l.s 16 1
