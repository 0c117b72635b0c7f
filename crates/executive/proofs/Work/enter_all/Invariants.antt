use mathlib.Core.Path.{◌≡◌}
use Prim.Native.Nat.{◌-◌}
use lib.ListN.{length, drop}
use Rattle.executive.specs.Table.{FindsRoom, InFlight, enter_all_in_flight, lit_in_flight}
use Rattle.executive.specs.Decisions.{joins_for}
use Rattle.executive.proofs.Work.enter_all.Given as goal

abbrev pub invariant-loop-x : goal.invariant-loop-x
invariant-loop-x l =
    InFlight (length l.x-items - l.x-index) l.self
    × FindsRoom (joins_for l.q l.now (drop l.x-index l.x-items)) l.self.table
    × (lit_in_flight (enter_all_in_flight (joins_for l.q l.now (drop l.x-index l.x-items)) l.self) ≡ lit_in_flight (enter_all_in_flight (joins_for l.q l.now l.x-items) l.initial.self))
