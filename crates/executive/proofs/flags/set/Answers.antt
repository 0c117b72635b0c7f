use mathlib.Core.Path.{refl}
use mathlib.Core.List.{[]}
use Prim.Native.Nat.{◌≤◌}
use native.Mathlib.Omega.{arith}
use lib.ListN.{length}
use Rattle.executive.specs.Plans.{holds}
use Rattle.executive.specs.Decisions.{rising, set_deed}
use Rattle.executive.proofs.decisions.Listing.{listed_well}
use Rattle.executive.proofs.decisions.ByTime.{rising-few}
use Rattle.executive.proofs.flags.set.Goals as goal

pub held-entrants-requires : goal.held-entrants-requires
held-entrants-requires c =
    let f = holds c.flag_set-more.result in
    let z : length (rising f 1 c.args.tasks.now) ≤ 16 = omega (arith, rising-few c.args.tasks.now f) in
    rw c.none-nobody.ensures (listed_well [] (omega arith), z)

pub returns : goal.returns
unfolding set_deed
returns c = rw (c.held-entrants.ensures, c.none-nobody.ensures, c.flag_set-more.ensures) refl
