-- The plan of kind 0B is good.
use mathlib.Core.Path.{◌≡◌, refl, ◌∙◌}
use mathlib.Core.Bool.{Bool, true, false, cond}
use mathlib.Core.List.{[]}
use Prim.Native.Nat.{ℕ, ◌+◌, ◌≤◌, ◌<◌}
use native.Mathlib.Omega.{arith}
use borrow.Author.Tests.{eqb-false}
use lib.Dec.{eqb}
use lib.ListN.{length-set}
use Rattle.records.specs.declared.FlagNo.{FlagNo}
use Rattle.executive.specs.Numbers.{last_unit, longest}
use Rattle.executive.specs.declared.Millis.{Millis}
use Rattle.executive.specs.declared.Table.{Table}
use Rattle.executive.specs.Plans.{set_plan, alarm_plan}
use Rattle.executive.specs.Clock.{with_alarm, interval}
use Rattle.executive.specs.Places.{never}
use Rattle.executive.specs.Table.{stays}
use Rattle.executive.specs.WellFormed.{Stored}
use Rattle.executive.proofs.Plans.WorkingForm.{WellFormedByPart}
use Rattle.executive.proofs.clock.Interval.{interval-most, interval-some}
use Rattle.executive.proofs.Lists.Sums.{set_all}
use Rattle.executive.proofs.Plans.GoodIsKept.{puts, Good}
use Rattle.executive.proofs.Plans.Flag.{set-good}
use Rattle.executive.proofs.messages.Kept.{mail-beside}

module _ (t : Table) (w : WellFormedByPart t) where
  -- ---- 0B
  pub alarm-good : (unit n : ℕ) (f : FlagNo) → unit ≤ last_unit → n < 256 → Good (alarm_plan t unit n f) t
  unfolding alarm_plan puts
  alarm-good unit n f hu hn = go (eqb n 0) refl
    where
      at : Millis
      at = record { 0 = t.rest.clock.0 + (interval unit n).0 }

      go : (b : Bool) → eqb n 0 ≡ b → Good (cond b (set_plan t f) (record { out = stays; ins = []; rest = with_alarm f.0 at t.rest })) t
      go true e = (set-good t w) f
      go false e =
          let m : (interval unit n).0 ≤ longest = interval-most unit n hn in
          let s : 0 < (interval unit n).0 = interval-some unit n hu (omega (arith, eqb-false n 0 e)) in
          record {
            leaving = refl;
            joining = tt;
            linked = w.links;
            own = w.own;
            rested = record {
              count = w.rested.count;
              granule = w.rested.granule;
              clocked = w.rested.clocked;
              sized = length-set t.rest.alarms f.0 at ∙ w.rested.sized;
              alarms = set_all (λ (i : ℕ) (x : Millis). 0 < x.0 → Stored t.rest.clock.0 x.0) t.rest.alarms f.0 at never (λ _. (omega arith, omega arith)) w.rested.alarms;
              priorities = w.rested.priorities;
              neat = record { room = w.rested.neat.room; clear = w.rested.neat.clear };
            };
            lined = w.lined;
            mailed = mail-beside t.tasks t.rest _ refl refl refl refl w.mailed;
          }
