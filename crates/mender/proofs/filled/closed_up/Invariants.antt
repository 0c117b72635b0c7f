use Prim.Native.Nat.{◌≤◌}
use mathlib.Core.Path.{◌≡◌}
use mathlib.Core.Bool.{Bool}
use lib.ListN.{take}
use Rattle.executive.specs.Letters.{all_that}
use Rattle.mender.specs.Filled.{filled_of}
use Rattle.mender.proofs.filled.closed_up.Given as goal

abbrev pub invariant-loop-x : goal.invariant-loop-x
invariant-loop-x g l =
    (l.taken ≤ l.x-index)
    × ((f : _ → Bool) → ((x : _) (b : Bool) → goal.F-post g l.stays x b → b ≡ f x)
    → record { places = l.places; taken = l.taken } ≡ filled_of 32 l.fn.free (all_that f (take l.x-index l.x-items)))
