-- A step rewrites the entries of those that it makes depart or enter, and of no others.
use mathlib.Core.Path.{◌≡◌, refl, ap, ◌∙◌}
use mathlib.Core.Bool.{Bool, true, false, cond}
use mathlib.Core.List.{List, [], ◌∷◌}
use Prim.Native.Nat.{ℕ, ◌+◌}
use native.Mathlib.Omega.{arith}
use lib.Dec.{eqb}
use Rattle.records.specs.declared.TaskNo.{TaskNo}
use Rattle.records.specs.Numbers.{Bytes}
use Rattle.executive.specs.declared.Task.{Task}
use Rattle.executive.specs.declared.Table.{Table}
use Rattle.executive.specs.Lists.{one}
use Rattle.executive.specs.Queue.{count, active_of}
use Rattle.executive.specs.Table.{line, items, view, head_of, Out, stays, leaves, Join, Plan, depart, apply, left?, change-at, out_tasks, entries, moves_of}
use Rattle.executive.specs.Places.{task_at}
use Rattle.executive.specs.WellFormed.{WellFormed}
use Rattle.executive.specs.Step.{step_of}
use Rattle.executive.specs.Promises.Demands.{plan_of_record}
use Rattle.executive.proofs.places.TaskAt.{at_other}
use Rattle.executive.proofs.Plans.Moves.{out-tasks}
use Rattle.executive.proofs.Plans.GoodIsKept.{puts, joins-tasks, after-tasks}
use Rattle.executive.proofs.step.StepIsPlan.{step_is}

-- a number that is not counted is another
not-counted : (b : Bool) (n : ℕ) → one b + n ≡ 0 → (b ≡ false) × (n ≡ 0)
not-counted true n e = absurd (omega arith)
not-counted false n e = (refl, omega arith)

puts-others : (js : List Join) (ts : List Task) (k : ℕ) → count k (entries js ts) ≡ 0
    → task_at (puts js ts) k ≡ task_at ts k
unfolding puts entries count
puts-others [] ts k e = refl
puts-others (j ∷ js) ts k e =
    let x = not-counted (eqb k j.who.0) (count k (entries js (change-at ts j.who.0 j.change))) e in
    puts-others js (change-at ts j.who.0 j.change) k x.1
    ∙ at_other ts j.who.0 k (j.change (task_at ts j.who.0)) x.0

out-others : (o : Out) (ts : List Task) (c k : ℕ) → cond (left? o) (one (eqb k c)) 0 ≡ 0
    → task_at (out_tasks o ts c) k ≡ task_at ts k
out-others stays ts c k e = refl
out-others (leaves f) ts c k e = at_other ts c k (f (task_at ts c)) (not-counted (eqb k c) 0 (omega arith)).0

-- the active task is the queue's head
pub head-is-active : (ts : List Task) (q : List TaskNo) → active_of (items ts q) ≡ (head_of q).0
unfolding active_of items
head-is-active ts [] = refl
head-is-active ts (c ∷ q) = refl

pub plan-tasks : (p : Plan) (t : Table) → (apply p t).tasks ≡ after-tasks p t
unfolding apply
plan-tasks p t = joins-tasks p.ins (depart p.out t) ∙ ap (puts p.ins) (out-tasks p.out t)

plan-others : (p : Plan) (t : Table) (k : ℕ) → cond (moves_of p t).out (one (eqb k (active_of (view t)))) 0 ≡ 0
    → count k (moves_of p t).ins ≡ 0 → task_at (apply p t).tasks k ≡ task_at t.tasks k
unfolding moves_of
plan-others p t k d e =
    ap (λ (ts : List Task). task_at ts k) (plan-tasks p t)
    ∙ puts-others p.ins (out_tasks p.out t.tasks (head_of (line t)).0) k e
    ∙ out-others p.out t.tasks (head_of (line t)).0 k (rw (head-is-active t.tasks (line t)) at d)

pub step-others : (t : Table) (s : List ℕ) (k : ℕ) → WellFormed t → Bytes s
    → cond (moves_of (plan_of_record t s) t).out (one (eqb k (active_of (view t)))) 0 ≡ 0
    → count k (moves_of (plan_of_record t s) t).ins ≡ 0
    → task_at (step_of t s).table.tasks k ≡ task_at t.tasks k
step-others t s k w b d e = rw (step_is t s w b).table (plan-others (plan_of_record t s) t k d e)
