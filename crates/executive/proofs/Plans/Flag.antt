-- The plan of kind 09 is good.
use mathlib.Core.Path.{refl, ◌∙◌}
use mathlib.Core.Bool.{Bool, true, false, cond}
use Prim.Native.Nat.{ℕ, ◌^◌, ◌-◌}
use native.Mathlib.Omega.{arith}
use lib.Dec.{eqb}
use lib.Bits.{bit_and}
use Rattle.records.specs.declared.FlagNo.{FlagNo}
use Rattle.executive.specs.declared.State.{State}
use Rattle.executive.specs.declared.Table.{Table}
use Rattle.executive.specs.Plans.{nothing, holds, risers, set_plan, reset_plan, flag_plan}
use Rattle.executive.specs.Flags.{with_flags, flag_set, flag_reset}
use Rattle.executive.specs.Places.{task_at}
use Rattle.executive.specs.Pool.{requests}
use Rattle.executive.specs.States.{mask_of, wait_mode}
use Rattle.executive.specs.WellFormed.{Unmet}
use Rattle.executive.proofs.Plans.WorkingForm.{RestOk, WellFormedByPart}
use Rattle.executive.proofs.Plans.LinksKept.{links-up, up-links}
use Rattle.executive.proofs.Plans.GoodIsKept.{puts, Good}
use Rattle.executive.proofs.Plans.SubsKept.{joined, subs_else}
use Rattle.executive.proofs.Plans.Shared.{nothing-good}
use Rattle.executive.proofs.Plans.Rising.{Tells, Done, all-risen}
use Rattle.executive.proofs.flags.Masks.{met-fewer}
use Rattle.executive.proofs.waking.Over.{over, over-holds, holds-over}
use Rattle.executive.proofs.Plans.Tick.{over-tells}
use Rattle.executive.proofs.messages.Kept.{mail-beside}

-- ---- the test of 09: who waits for flags, and whose condition holds now
holds-tells : (c fa fs : ℕ) → Tells (holds fs) c fa c fs
holds-tells c fa fs =
    let o : Tells (over c fs) c fa c fs = over-tells c fa c fs (omega arith) in
    record {
      onward = o.onward;
      waits = λ s e. o.waits s (holds-over c fs s e);
      aims = λ s at e l. o.aims s at (holds-over c fs s e) l;
      calms = λ s e x. o.calms s (over-holds c fs s x.0 ∙ e) x;
    }

-- fewer flags leave every wait as it is
unmet-fewer : (fs x : ℕ) (s : State) → Unmet fs s → Unmet (bit_and fs x) s
unmet-fewer fs x s u e = ((u e).0, met-fewer fs x (wait_mode s) (mask_of s) (u e).1)

module _ (t : Table) (w : WellFormedByPart t) where
  -- the rest with other flags
  flagged : (fs : ℕ) → RestOk (with_flags fs t.rest)
  flagged fs = record {
    count = w.rested.count;
    granule = w.rested.granule;
    clocked = w.rested.clocked;
    sized = w.rested.sized;
    alarms = w.rested.alarms;
    priorities = w.rested.priorities;
    neat = record { room = w.rested.neat.room; clear = w.rested.neat.clear };
  }

  -- ---- 09
  pub set-good : (f : FlagNo) → Good (set_plan t f) t
  unfolding set_plan
  set-good f =
      let fs : ℕ = flag_set t.rest.flags f.0 in
      let now : ℕ = t.rest.clock.0 in
      let d : Done (risers (holds fs) 1 t.tasks) t.tasks (requests t.rest) now fs t.rest.count =
      all-risen (holds fs) (requests t.rest) now t.rest.flags now fs t.rest.count (holds-tells now t.rest.flags fs) t.tasks (links-up w.links) w.own in
      record {
        leaving = refl;
        joining = joined (risers (holds fs) 1 t.tasks) t.tasks d.joining;
        linked = up-links d.linked;
        own = d.own;
        rested = flagged fs;
        lined = subs_else (risers (holds fs) 1 t.tasks) t.tasks d.joining w.lined;
        mailed = mail-beside t.tasks t.rest _ refl refl refl refl w.mailed;
      }

  pub reset-good : (f : FlagNo) → Good (reset_plan t f) t
  unfolding reset_plan puts
  reset-good f = record {
    leaving = refl;
    joining = tt;
    linked = w.links;
    own = λ k.
        let o = w.own k in
        record {
          calm = (o.calm.0, unmet-fewer t.rest.flags (4294967295 - 2 ^ f.0) (task_at t.tasks k).state o.calm.1);
          started = o.started;
          level = o.level;
          home = o.home;
          zeros = o.zeros;
          beyond = o.beyond;
        };
    rested = flagged (flag_reset t.rest.flags f.0);
    lined = w.lined;
    mailed = mail-beside t.tasks t.rest _ refl refl refl refl w.mailed;
  }

  pub flag-good : (operation : ℕ) (f : FlagNo) → Good (flag_plan t operation f) t
  unfolding flag_plan
  flag-good operation f = go (eqb operation 0) (eqb operation 1)
    where
      go : (a b : Bool) → Good (cond a (reset_plan t f) (cond b (set_plan t f) (nothing t))) t
      go true b = reset-good f
      go false true = set-good f
      go false false = nothing-good t w
