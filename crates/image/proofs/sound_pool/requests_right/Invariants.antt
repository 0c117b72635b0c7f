-- `sound_pool::requests_right` meets its contract. The invariant: the requests from i on decide, and naming whom they name in
-- the sets so far makes the whole sets.
use mathlib.Core.Path.{◌≡◌}
use lib.ListN.{take, drop}
use Rattle.executive.specs.Lists.{all_of}
use Rattle.executive.specs.Check.{request_right}
use Rattle.image.specs.Sound.{tasks_in, pool_in, namings, names_in}
use Rattle.image.proofs.sound_pool.requests_right.Given as goal

abbrev pub invariant-loop-i : goal.invariant-loop-i
invariant-loop-i l =
    (all_of (request_right (tasks_in l.b) l.count) (drop l.i (take l.queued (pool_in l.b))) ≡ all_of (request_right (tasks_in l.b) l.count) (take l.queued (pool_in l.b)))
    × (namings l.count l.starts (drop l.i (names_in l.b 6 l.queued 708)) ≡ namings l.count 0 (names_in l.b 6 l.queued 708))
    × (namings l.count l.all_ends (drop l.i (names_in l.b 6 l.queued 709)) ≡ namings l.count l.ends (names_in l.b 6 l.queued 709))
