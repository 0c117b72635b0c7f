-- What a decision that accepts does at a well-formed table, for whoever executes it: it can be done; the caller leaves to
-- a state that is not ready; each that enters is a task, was not ready, and is.
use Prim.Native.Nat.{ℕ}
use mathlib.Core.Path.{◌≡◌, ap, ◌∙◌}
use mathlib.Core.Bool.{true}
use mathlib.Core.List.{List, [], ◌∷◌}
use Rattle.records.specs.Numbers.{Bytes}
use Rattle.executive.specs.declared.Task.{Task}
use Rattle.executive.specs.declared.Table.{Table}
use Rattle.executive.specs.declared.decisions.Decision.{Decision}
use Rattle.executive.specs.Places.{Names, task_at}
use Rattle.executive.specs.Table.{line, head_of, Out, stays, leaves, Join, Plan, change-at, out_tasks}
use Rattle.executive.specs.States.{ready, is}
use Rattle.executive.specs.Plans.{caller}
use Rattle.executive.specs.WellFormed.{WellFormed}
use Rattle.executive.specs.Check.{queue_right, is_well_formed}
use Rattle.executive.specs.Decisions.{meant, Doable}
use Rattle.executive.specs.Sheet.{plan_of}
use Rattle.executive.specs.Refusals.{call_in}
use Rattle.executive.specs.Deciding.{decision_for}
use Rattle.executive.proofs.Lists.Tests.{and_true}
use Rattle.executive.proofs.check.Decides.{well_formed-iff}
use Rattle.executive.proofs.refusals.NothingRefuses.{clear_of}
use Rattle.executive.proofs.Plans.WorkingForm.{formed}
use Rattle.executive.proofs.Plans.GoodIsKept.{out_ready, JoinsAll, Good}
use Rattle.executive.proofs.decisions.DeedIsPlan.{means}
use Rattle.executive.proofs.decisions.CanBeDone.{doable}
use Rattle.executive.proofs.step.StepIsPlan.{call-good, call_in_range}
use Rattle.executive.proofs.step.ByDecision.{Accepts, follows}

-- one after the other, each that enters is a task, was not ready, and is
pub record Enters (j : Join) (ts : List Task) : Type 0 where
  pub names : Names j.who.0 ts
  pub before : is ready (task_at ts j.who.0).state ≡ 0
  pub after : is ready (j.change (task_at ts j.who.0)).state ≡ 1

abbrev pub AllEnter : List Join → List Task → Type 0
AllEnter [] ts = Unit {0}
AllEnter (j ∷ js) ts = Enters j ts × AllEnter js (change-at ts j.who.0 j.change)

-- the caller's state as it leaves
abbrev pub LeavesUnready : Out → Task → Type 0
LeavesUnready stays e = Unit {0}
LeavesUnready (leaves f) e = is ready (f e).state ≡ 0

pub record Moves (p : Plan) (t : Table) : Type 0 where
  pub leaving : LeavesUnready p.out (task_at t.tasks (head_of (line t)).0)
  pub entering : AllEnter p.ins (out_tasks p.out t.tasks (head_of (line t)).0)

all-enter : (js : List Join) (ts : List Task) → JoinsAll js ts → AllEnter js ts
all-enter [] ts h = tt
all-enter (j ∷ js) ts h = (record { names = h.0.names; before = h.0.before; after = h.0.after }, all-enter js (change-at ts j.who.0 j.change) h.1)

leaves-unready : (o : Out) (e : Task) → out_ready o e ≡ 0 → LeavesUnready o e
leaves-unready stays e h = tt
leaves-unready (leaves f) e h = h

good-moves : (p : Plan) (t : Table) → Good p t → Moves p t
good-moves p t g = record { leaving = leaves-unready p.out _ g.leaving; entering = all-enter p.ins _ g.joining }

module _ (t : Table) (s : List ℕ) (w : WellFormed t) where
  abbrev d : Decision
  d = decision_for t.tasks t.rest (caller t) s

  -- a well-formed table's queue is right
  pub queue-right : queue_right t ≡ true
  unfolding is_well_formed
  queue-right = (and_true (queue_right t) _ ((well_formed-iff t).1 w)).0

  module _ (z : d.number ≡ 0) where
    accepts : Accepts t s d
    accepts = (follows t s queue-right).accepts z

    pub can_be_done : Doable d.deed t
    can_be_done = rw accepts.said (doable t w (call_in s) accepts.early)

    pub moves : Bytes s → Moves (meant d.deed t) t
    moves b =
        let a = accepts in
        let p : meant d.deed t ≡ plan_of t (call_in s) = ap (λ (x : Decision). meant x.deed t) a.said ∙ means t (call_in s) in
        rw p (good-moves (plan_of t (call_in s)) t (call-good t (call_in s) (formed w) (call_in_range s b) (clear_of t (call_in s) a.early)))
