-- The plan of kind 02 is good.
use mathlib.Core.Path.{◌≡◌, refl}
use mathlib.Core.Bool.{Bool, true, false, cond}
use mathlib.Core.List.{[]}
use Prim.Native.Nat.{ℕ, ◌+◌, ◌≤◌, ◌<◌}
use native.Mathlib.Omega.{arith}
use borrow.Author.Tests.{eqb-false}
use lib.Dec.{eqb}
use Rattle.executive.specs.Numbers.{last_unit, longest}
use Rattle.executive.specs.declared.State.TheVariants.{Paused}
use Rattle.executive.specs.declared.Table.{Table}
use Rattle.executive.specs.Entries.{with_state}
use Rattle.executive.specs.Plans.{nothing, pause_plan}
use Rattle.executive.specs.Table.{leaves}
use Rattle.executive.specs.Clock.{interval}
use Rattle.executive.proofs.Plans.WorkingForm.{WellFormedByPart}
use Rattle.executive.proofs.Lists.Tests.{false_not_true}
use Rattle.executive.proofs.clock.Interval.{interval-most, interval-some}
use Rattle.executive.proofs.Plans.GoodIsKept.{Good}
use Rattle.executive.proofs.Plans.Shared.{nothing-good, waits-good}

-- ---- 02
pub pause-good : (t : Table) (u n : ℕ) → WellFormedByPart t → 0 < t.ready → u ≤ last_unit → n < 256 → Good (pause_plan t u n) t
unfolding pause_plan
pause-good t u n w h hu hn = go (eqb n 0) refl
  where
    go : (b : Bool) → eqb n 0 ≡ b
        → Good (cond b (nothing t) (record { out = leaves (with_state (Paused (record { 0 = t.rest.clock.0 + (interval u n).0 }))); ins = []; rest = t.rest })) t
    go true z = nothing-good t w
    go false z =
        let m : (interval u n).0 ≤ longest = interval-most u n hn in
        let s : 0 < (interval u n).0 = interval-some u n hu (omega (arith, eqb-false n 0 z)) in
        waits-good t w h (Paused (record { 0 = t.rest.clock.0 + (interval u n).0 })) (λ _. (omega arith, omega arith), false_not_true) refl
