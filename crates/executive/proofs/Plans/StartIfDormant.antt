-- The plan of kind 04 is good.
use mathlib.Core.Path.{◌≡◌, refl, ap}
use mathlib.Core.Bool.{Bool, true, false, cond}
use Prim.Native.Nat.{ℕ, ◌≤◌, ◌<◌}
use Rattle.records.specs.declared.TaskNo.{TaskNo}
use Rattle.executive.specs.declared.AwaitedMoment.TheVariants.{ForNothing}
use Rattle.executive.specs.declared.Table.{Table}
use Rattle.executive.specs.Plans.{caller, state_at, nothing, priority_of, asks, start_now_plan, start_if_dormant_plan}
use Rattle.executive.specs.Lists.{one}
use Rattle.executive.specs.Places.{task_at}
use Rattle.executive.specs.States.{is_dormant}
use Rattle.executive.proofs.Plans.WorkingForm.{WellFormedByPart}
use Rattle.executive.proofs.Plans.GoodIsKept.{Good}
use Rattle.executive.proofs.Plans.Shared.{nothing-good}
use Rattle.executive.proofs.Plans.StartOrQueue.{start-good, there, fair}

module _ (t : Table) (w : WellFormedByPart t) (h : 0 < t.ready) (option : ℕ) (k : TaskNo) (some : 0 < k.0) (few : k.0 ≤ t.rest.count) where
  abbrev level : ℕ
  level = priority_of option (task_at t.tasks k.0).own

  pub start-only-good : Good (start_if_dormant_plan t option k) t
  unfolding start_if_dormant_plan
  start-only-good = go (is_dormant (state_at t k)) refl
    where
      go : (b : Bool) → is_dormant (state_at t k) ≡ b → Good (cond b (start_now_plan t (asks (caller t) ForNothing k level 0) ForNothing) (nothing t)) t
      go true e = start-good t w h k level 0 (fair t w h option k some few) (there t w h option k some few) few (ap one e) ForNothing tt
      go false e = nothing-good t w
