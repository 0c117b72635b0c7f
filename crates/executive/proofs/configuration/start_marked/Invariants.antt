-- `executive::configuration::start_marked` meets its contract.
use mathlib.Core.Path.{◌≡◌}
use Prim.Native.Nat.{ℕ, ◌<◌, ◌-◌}
use Rattle.executive.specs.Queue.{count}
use Rattle.executive.specs.Table.{InFlight, view, enter_all_in_flight, lit_in_flight}
use Rattle.executive.specs.Configuration.{starters}
use Rattle.executive.proofs.configuration.start_marked.Given as goal

abbrev pub invariant-loop-i : goal.invariant-loop-i
invariant-loop-i l =
    InFlight (l.n - l.i) l.v × (l.v ≡ lit_in_flight (enter_all_in_flight (starters l.s l.i 1) l.initial.v)) × ((j : ℕ) → l.i < j → count j (view l.v.table) ≡ 0)
