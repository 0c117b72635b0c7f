-- Whoever enters in a step has, after it, the entry that entering made: those that enter later are others.
use mathlib.Core.Path.{◌≡◌, refl, ap, ◌∙◌}
use mathlib.Core.Bool.{Bool, true, false}
use mathlib.Core.List.{List, [], ◌∷◌, ◌++◌}
use Prim.Native.Nat.{ℕ, ◌+◌, ◌<◌}
use native.Mathlib.Omega.{arith}
use borrow.Author.Tests.{eqb-true}
use lib.Dec.{eqb}
use Rattle.records.specs.declared.TaskNo.{TaskNo}
use Rattle.executive.specs.declared.Task.{Task}
use Rattle.executive.specs.declared.Request.{Request}
use Rattle.executive.specs.declared.Rest.{Rest}
use Rattle.executive.specs.declared.Table.{Table}
use Rattle.executive.specs.Queue.{Item, count}
use Rattle.executive.specs.Lists.{one}
use Rattle.executive.specs.Places.{Names, task_at}
use Rattle.executive.specs.Table.{view, Out, Join, Plan, entered, depart, join, joins, apply, enters_as}
use Rattle.executive.specs.Entries.{begun}
use Rattle.executive.specs.Promises.EveryStart.{Begun, entry}
use Rattle.executive.proofs.Lists.Tests.{eqb_self}
use Rattle.executive.proofs.queue.Law.{insert-count}
use Rattle.executive.proofs.Plans.Moves.{Enters, Entering, MovesAreLegal, join-view}
use Rattle.executive.proofs.places.TaskAt.{at_same, at_other}

-- one that stands in a queue is not one that does not
apart : (q : List Item) (k j : ℕ) → 0 < count k q → count j q ≡ 0 → eqb k j ≡ false
apart q k j h z = go (eqb k j) refl
  where
    go : (b : Bool) → eqb k j ≡ b → b ≡ false
    go true e = absurd (omega (arith, ap (λ (n : ℕ). count n q) (eqb-true k j e)))
    go false e = refl

now_in : (j : Join) (t : Table) (k : ℕ) → Enters j t → count k (view (join j t)) ≡ one (eqb k j.who.0) + count k (view t)
now_in j t k e = ap (count k) (join-view j t e.names e.absent) ∙ insert-count (enters_as j t.tasks) (view t) k

-- a ready task keeps its entry while others enter
pub stays_so : (js : List Join) (t : Table) (k : ℕ) → Entering js t → 0 < count k (view t) → task_at (joins js t).tasks k ≡ task_at t.tasks k
unfolding joins join entered
stays_so [] t k s h = refl
stays_so (j ∷ js) t k s h =
    stays_so js (join j t) k s.1 (omega (arith, now_in j t k s.0))
    ∙ at_other t.tasks j.who.0 k (j.change (task_at t.tasks j.who.0)) (apart (view t) k j.who.0 h s.0.absent)

pub enters_so : (a : List Join) (j : Join) (b : List Join) (t : Table) → Entering (a ++ (j ∷ b)) t
    → Names j.who.0 (joins a t).tasks × (task_at (joins (a ++ (j ∷ b)) t).tasks j.who.0 ≡ j.change (task_at (joins a t).tasks j.who.0))
unfolding joins join entered
enters_so [] j b t s = (
  s.0.names,
  stays_so b (join j t) j.who.0 s.1 (omega (arith, now_in j t j.who.0 s.0, ap one (eqb_self j.who.0)))
      ∙ at_same t.tasks j.who.0 (j.change (task_at t.tasks j.who.0)) s.0.names,
)
enters_so (i ∷ a) j b t s = enters_so a j b (join i t) s.1

-- so a request whose run begins for task k, before some and after others, stands in the table
module _ (o : Out) (a b : List Join) (r : Request) (k : TaskNo) (x : Rest) (t : Table) (same : r.target.0 ≡ k.0) where
  abbrev pub beginning : Plan
  beginning = record { out = o; ins = a ++ (record { who = k; change = begun r x.clock } ∷ b); rest = x }

  pub names_so : MovesAreLegal beginning t → Names k.0 (joins a (depart o t)).tasks
  names_so s = (enters_so a (record { who = k; change = begun r x.clock }) b (depart o t) s.entering).0

  pub begins_so : MovesAreLegal beginning t → Begun (apply beginning t) (entry 0 r)
  unfolding apply
  begins_so s =
      let e = (enters_so a (record { who = k; change = begun r x.clock }) b (depart o t) s.entering).1 in
      record {
        ready = rw same (ap (λ (e : Task). e.state) e);
        priority = rw same (ap (λ (e : Task). e.priority) e);
        argument = rw same (ap (λ (e : Task). e.argument) e);
        start = rw same (ap (λ (e : Task). e.start) e);
      }
