use mathlib.Core.Path.{◌≡◌, refl}
use native.Mathlib.Omega.{arith}
use mathlib.Core.List.{[], ◌∷◌, ◌++◌, append_assoc}
use Prim.Native.Nat.{◌+◌}
use lib.ListN.{length, length-append}
use Rattle.executive.specs.declared.decisions.How.TheVariants.{Begun}
use Rattle.executive.specs.Decisions.{wakes, entrant}
use Rattle.executive.proofs.decisions.Listing.{listed_well, named-listed, woken-short}
use Rattle.executive.proofs.calls.begins_anew.Goals as goal

pub also-l2-requires : goal.also-l2-requires
also-l2-requires c =
    let w = c.args.w in
    rw c.only_woken-l1.ensures (listed_well (wakes w) (omega (arith, woken-short w)), omega (arith, woken-short w))

pub woken-entrants-requires : goal.woken-entrants-requires
woken-entrants-requires c =
    let w = c.args.w in
    let x = entrant c.args.c Begun in
    let e : length (wakes w ++ (x ∷ [])) ≡ length (wakes w) + 1 = length-append (wakes w) (x ∷ []) in
    rw (c.also-l2.ensures, c.only_woken-l1.ensures, named-listed (wakes w)) (listed_well (wakes w ++ (x ∷ [])) (omega (arith, woken-short w)), omega (arith, woken-short w))

pub returns : goal.returns
returns c =
    let w = c.args.w in
    let x = entrant c.args.c Begun in
    rw (c.accepted.ensures, c.woken-entrants.ensures, c.also-l2.ensures, c.only_woken-l1.ensures, c.only_z-marks.ensures, named-listed (wakes w), named-listed (wakes w ++ (x ∷ [])), append_assoc (wakes w) (x ∷ []) (wakes c.args.q.start_waiter)) refl
