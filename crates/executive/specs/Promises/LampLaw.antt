-- What the status lamp shows (02): the active task's priority, read from the word of the ready levels alone; it is dark
-- exactly when the executive is idle.
use Rattle.std.specs.Prelude.{ℕ, ◌^◌, ◌<◌, ◌≡◌, ◌↔◌, ◌≢◌, true, false, List, None, Some}
use Rattle.executive.specs.declared.State.TheVariants.{Ready}
use Rattle.executive.specs.declared.Table.{Table}
use Rattle.executive.specs.Places.{task_at}
use Rattle.executive.specs.Table.{view, levels_of}
use Rattle.executive.specs.Flags.{is_set}
use Rattle.executive.specs.Plans.{caller}
use Rattle.executive.specs.WellFormed.{WellFormed}
use Rattle.executive.specs.Lamp.{lamp_of}
use Rattle.executive.specs.Promises.Demands.{after, AllBytes}

-- what the lamp shows of the table t: the priority of its active task, and nothing exactly if no task is ready
pub record Shows (t : Table) : Type 0 where
  pub level : 0 < (caller t).0 → lamp_of t.levels ≡ Some (task_at t.tasks (caller t).0).priority
  pub dark : (lamp_of t.levels ≡ None) ↔ ((k : ℕ) → (task_at t.tasks k).state ≢ Ready)
  pub idle : (lamp_of t.levels ≡ None) ↔ ((caller t).0 ≡ 0)

-- bit p is the highest that is set
pub record Highest (w p : ℕ) : Type 0 where
  pub lit : is_set w p ≡ true
  pub above : (q : ℕ) → p < q → is_set w q ≡ false

pub record LampLaw : Type 0 where
  pub shows : (t : Table) → WellFormed t → Shows t
  -- after any history
  pub shown : (t : Table) (ss : List (List ℕ)) → WellFormed t → AllBytes ss → Shows (after t ss)
  -- the level is read from the word alone: of every word of 16 bits it is the highest set bit, and dark is word 0
  pub top : (w p : ℕ) → w < 2 ^ 16 → (lamp_of w ≡ Some p) ↔ Highest w p
  pub none : (w : ℕ) → w < 2 ^ 16 → (lamp_of w ≡ None) ↔ (w ≡ 0)
  -- the word is its queue's
  pub bits : (t : Table) → WellFormed t → t.levels ≡ levels_of (view t)
