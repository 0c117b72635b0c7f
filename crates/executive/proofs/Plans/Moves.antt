-- A step's table has the queue that its plan's moves make: shown once, for every plan.
use mathlib.Core.Path.{◌≡◌, refl, ap, ap₂, subst, subst₂, ◌∙◌}
use mathlib.Core.Bool.{Bool, true, false}
use mathlib.Core.List.{List, [], ◌∷◌, tail}
use Prim.Native.Nat.{ℕ, ◌+◌}
use native.Mathlib.Omega.{arith}
use lib.Dec.{eqb}
use Rattle.records.specs.declared.TaskNo.{TaskNo}
use Rattle.executive.specs.declared.Task.{Task}
use Rattle.executive.specs.declared.Table.{Table}
use Rattle.executive.specs.Queue.{Item, insert, inserts, left, play, count, Fresh}
use Rattle.executive.specs.Lists.{one}
use Rattle.executive.specs.Places.{Names, nobody, task_at, put_at}
use Rattle.executive.specs.Table.{line, items, view, enter_at, head_of, Out, stays, leaves, Join, Plan, departed, entered, depart, join, joins, apply, left?, change-at, enters_as, out_tasks, entries, moves_of}
use Rattle.executive.proofs.Lists.Pad.{line-pad}
use Rattle.executive.proofs.queue.Law.{items-enter}
use Rattle.executive.proofs.places.TaskAt.{at_same, at_other}
use Rattle.executive.proofs.Lists.Tests.{eqb_swap}

-- ---- the items of a queue do not feel a store to a task that is not in it
pub items_put : (ts : List Task) (j : ℕ) (e : Task) (q : List TaskNo) → count j (items ts q) ≡ 0 → items (put_at ts j e) q ≡ items ts q
unfolding items count
items_put ts j e [] h = refl
items_put ts j e (k ∷ q) h = go (eqb j k.0) refl h (items_put ts j e q)
  where
    go : (b : Bool) → eqb j k.0 ≡ b → one b + count j (items ts q) ≡ 0 → (count j (items ts q) ≡ 0 → items (put_at ts j e) q ≡ items ts q)
        → items (put_at ts j e) (k ∷ q) ≡ items ts (k ∷ q)
    go true f h ih = absurd (omega arith)
    go false f h ih = let a : task_at (put_at ts j e) k.0 ≡ task_at ts k.0 = at_other ts j k.0 e (eqb_swap j k.0 f) in rw (a, ih (omega arith))

-- ---- one entry, and one departure
pub enter-items : (ts : List Task) (k : TaskNo) (e : Task) (r : List TaskNo) → Names k.0 ts → count k.0 (items ts r) ≡ 0
    → items (put_at ts k.0 e) (enter_at (put_at ts k.0 e) k r) ≡ insert (record { task = k.0; prio = e.priority }) (items ts r)
enter-items ts k e r n h =
    let ts' : List Task = put_at ts k.0 e in
    let a : task_at ts' k.0 ≡ e = at_same ts k.0 e n in
    let b : items ts' r ≡ items ts r = items_put ts k.0 e r h in
    rw (items-enter ts' k r, a, b)

pub join-view : (j : Join) (t : Table) → Names j.who.0 t.tasks → count j.who.0 (view t) ≡ 0
    → view (join j t) ≡ insert (enters_as j t.tasks) (view t)
unfolding join entered
join-view j t n h = rw (line-pad nobody 16 (enter_at (change-at t.tasks j.who.0 j.change) j.who (line t))) (enter-items t.tasks j.who (j.change (task_at t.tasks j.who.0)) (line t) n h)

pub join-line : (j : Join) (t : Table) → line (join j t) ≡ enter_at (change-at t.tasks j.who.0 j.change) j.who (line t)
unfolding join entered
join-line j t = line-pad nobody 16 (enter_at (change-at t.tasks j.who.0 j.change) j.who (line t))

pub leave-line : (f : Task → Task) (t : Table) → line (depart (leaves f) t) ≡ tail (line t)
unfolding depart departed
leave-line f t = line-pad nobody 16 (tail (line t))

pub depart-view : (o : Out) (t : Table) → count (head_of (line t)).0 (items t.tasks (tail (line t))) ≡ 0
    → view (depart o t) ≡ left (left? o) (view t)
unfolding depart departed left items
depart-view stays t h = refl
depart-view (leaves f) t h = rw (line-pad nobody 16 (tail (line t))) (go (line t) h)
  where
    go : (r : List TaskNo) → count (head_of r).0 (items t.tasks (tail r)) ≡ 0 → items (change-at t.tasks (head_of r).0 f) (tail r) ≡ tail (items t.tasks r)
    go [] h = refl
    go (k ∷ r) h = items_put t.tasks k.0 (f (task_at t.tasks k.0)) r h

-- ---- the whole plan
pub record Enters (j : Join) (t : Table) : Type 0 where
  pub names : Names j.who.0 t.tasks
  pub absent : count j.who.0 (view t) ≡ 0

abbrev pub Entering : List Join → Table → Type 0
Entering [] t = Unit {0}
Entering (j ∷ js) t = Enters j t × Entering js (join j t)

pub record MovesAreLegal (p : Plan) (t : Table) : Type 0 where
  pub once : count (head_of (line t)).0 (items t.tasks (tail (line t))) ≡ 0
  pub entering : Entering p.ins (depart p.out t)

pub joins-view : (js : List Join) (t : Table) → Entering js t → (view (joins js t) ≡ inserts (entries js t.tasks) (view t)) × Fresh (entries js t.tasks) (view t)
unfolding joins inserts entries join entered
joins-view [] t s = (refl, tt)
joins-view (j ∷ js) t s =
    let es : List Item = entries js (join j t).tasks in
    let v : view (join j t) ≡ insert (enters_as j t.tasks) (view t) = join-view j t s.0.names s.0.absent in
    let r : (view (joins js (join j t)) ≡ inserts es (view (join j t))) × Fresh es (view (join j t)) = joins-view js (join j t) s.1 in
    (r.0 ∙ ap (inserts es) v, (s.0.absent, subst (Fresh es) v r.1))

pub out-tasks : (o : Out) (t : Table) → (depart o t).tasks ≡ out_tasks o t.tasks (head_of (line t)).0
unfolding depart departed
out-tasks stays t = refl
out-tasks (leaves f) t = refl

pub apply-view : (p : Plan) (t : Table) → MovesAreLegal p t
    → (view (apply p t) ≡ play (moves_of p t) (view t)) × Fresh (moves_of p t).ins (left (moves_of p t).out (view t))
unfolding apply play moves_of
apply-view p t s =
    let v : view (depart p.out t) ≡ left (left? p.out) (view t) = depart-view p.out t s.once in
    let es : List Item = entries p.ins (out_tasks p.out t.tasks (head_of (line t)).0) in
    let e : entries p.ins (depart p.out t).tasks ≡ es = ap (entries p.ins) (out-tasks p.out t) in
    let r = joins-view p.ins (depart p.out t) s.entering in
    (r.0 ∙ ap₂ inserts e v, subst₂ Fresh e v r.1)

-- ---- for the code: entries one after the other, and the rest of the table set before or after them
