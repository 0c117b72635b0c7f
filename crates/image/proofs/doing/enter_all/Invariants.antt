-- `doing::enter_all` meets its contract. The invariant: the bytes are the image of a table on the way, whose line descends, and of
-- which those who are still to enter make the whole.
use mathlib.Core.Path.{◌≡◌}
use Prim.Native.Nat.{◌≤◌, ◌-◌, ◌*◌}
use lib.ListN.{length, take, drop}
use Rattle.executive.specs.declared.Table.{Table}
use Rattle.executive.specs.Queue.{Desc}
use Rattle.executive.specs.Table.{FindsRoom, InFlight, view, begin, enter_all_in_flight, lit_in_flight}
use Rattle.executive.specs.Decisions.{joins_for}
use Rattle.image.specs.Laid.{Laid}
use Rattle.image.proofs.DoneLaid.{Entering}
use Rattle.image.proofs.doing.enter_all.Given as goal

abbrev pub invariant-loop-i : goal.invariant-loop-i
invariant-loop-i l =
    let n = l.fn.list.count in
    (l.walked ≤ 15 * l.i)
    × ((t : Table) → Laid l.initial.b t → InFlight n (begin t) → FindsRoom (joins_for l.q l.time (take n l.fn.list.places)) t → Desc (view t)
    → Entering l.b l.walked (joins_for l.q l.time (drop l.i (take n l.fn.list.places))) (n - l.i) (lit_in_flight (enter_all_in_flight (joins_for l.q l.time (take n l.fn.list.places)) (begin t))).table (lit_in_flight (enter_all_in_flight (joins_for l.q l.time (take n l.fn.list.places)) (begin t))).walked)
