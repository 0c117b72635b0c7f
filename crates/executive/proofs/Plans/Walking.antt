-- How far a plan's entries walk: what is counted in flight is what the queue's theory counts over its moves; no entry
-- passes more than fifteen, and no plan more than 120.
use mathlib.Core.Path.{◌≡◌, refl, sym, ap, ap₂, subst, subst₂, ◌∙◌}
use mathlib.Core.List.{List, [], ◌∷◌}
use Prim.Native.Nat.{◌+◌, ◌≤◌}
use native.Mathlib.Omega.{arith}
use lib.ListN.{length}
use Rattle.executive.specs.declared.Task.{Task}
use Rattle.executive.specs.declared.Table.{Table}
use Rattle.executive.specs.declared.Work.{Work}
use Rattle.executive.specs.Queue.{Item, insert, at_least, walk, left, Desc, EachWalks}
use Rattle.executive.specs.Places.{task_at}
use Rattle.executive.specs.Table.{ArraysInOrder, line, items, view, relit, head_of, Join, Plan, entered, depart, join, FindsRoom, begin, passed_by, InFlight, enter_in_flight, enter_all_in_flight, lit_in_flight, apply_in_flight, left?, change-at, enters_as, out_tasks, entries, moves_of}
use Rattle.executive.proofs.places.TaskAt.{at_same}
use Rattle.executive.proofs.queue.ArraysAreLists.{take-le}
use Rattle.executive.proofs.queue.InFlight.{relit-fit, begin-flying, lit-on_the_way, enters-flying, depart-fit}
use Rattle.executive.proofs.queue.Law.{insert_desc, insert-at}
use Rattle.executive.proofs.queue.Walk.{ahead-at_least, at_least-le, items-length, left_desc, sum-most}
use Rattle.executive.proofs.Plans.Moves.{Enters, Entering, MovesAreLegal, items_put, join-view, depart-view, out-tasks}

-- ---- one entry
module _ (j : Join) (t : Table) (e : Enters j t) (d : Desc (view t)) where
  passed_is : passed_by j.who (j.change (task_at t.tasks j.who.0)) t ≡ at_least (enters_as j t.tasks).prio (view t)
  passed_is =
      let ts : List Task = change-at t.tasks j.who.0 j.change in
      let i : items ts (line t) ≡ view t = items_put t.tasks j.who.0 (j.change (task_at t.tasks j.who.0)) (line t) e.absent in
      let a : task_at ts j.who.0 ≡ j.change (task_at t.tasks j.who.0) = at_same t.tasks j.who.0 (j.change (task_at t.tasks j.who.0)) e.names in
      ahead-at_least ts (task_at ts j.who.0).priority (line t) (rw i d) ∙ ap₂ at_least (ap (λ (x : Task). x.priority) a) i

  joined-view : view (join j t) ≡ insert (enters_as j t.tasks) (view t)
  joined-view = join-view j t e.names e.absent

  joined_desc : Desc (view (join j t))
  joined_desc = rw joined-view (insert_desc (enters_as j t.tasks) (view t) d)

-- ---- all entries
walked-is : (js : List Join) (w : Work) → Entering js w.table → Desc (view w.table)
    → (enter_all_in_flight js w).walked ≡ w.walked + walk (entries js w.table.tasks) (view w.table)
unfolding enter_all_in_flight enter_in_flight walk entries join entered
walked-is [] w e d = omega arith
walked-is (j ∷ js) w e d =
    let t : Table = w.table in
    let x : Item = enters_as j t.tasks in
    let es : List Item = entries js (change-at t.tasks j.who.0 j.change) in
    let u : Work = enter_in_flight j.who (j.change (task_at t.tasks j.who.0)) w in
    let r : (enter_all_in_flight js u).walked ≡ w.walked + passed_by j.who (j.change (task_at t.tasks j.who.0)) t + walk es (view (join j t)) =
    walked-is js u e.1 (joined_desc j t e.0 d) in
    let p = passed_is j t e.0 d in
    let v : walk es (view (join j t)) ≡ walk es (insert x (view t)) = ap (walk es) (joined-view j t e.0 d) in
    omega (arith, r, p, v)

each-walks : (js : List Join) (t : Table) → Entering js t → FindsRoom js t → Desc (view t) → EachWalks (entries js t.tasks) (view t)
unfolding entries join entered
each-walks [] t e r d = tt
each-walks (j ∷ js) t e r d =
    let x : Item = enters_as j t.tasks in
    let l : length (view t) ≡ length (line t) = items-length t.tasks (line t) in (
      sym (insert-at x (view t) d e.0.absent),
      omega (arith, at_least-le x.prio (view t), l, take-le t.ready t.queue, r.1),
      subst (EachWalks (entries js (join j t).tasks)) (joined-view j t e.0 d) (each-walks js (join j t) e.1 r.2 (joined_desc j t e.0 d)),
    )

-- ---- the whole plan
module _ (p : Plan) (t : Table) where
  abbrev pub flown : Table
  flown = depart p.out t

  pub plan-most : ArraysInOrder t → flown.ready + length p.ins ≤ 16 → (apply_in_flight p t).walked ≤ 120
  unfolding apply_in_flight
  plan-most f h =
      let b = begin-flying (length p.ins + 0) (relit flown) (relit-fit flown (depart-fit p.out t f)) (omega (arith, h)) refl in
      let g : InFlight 0 (lit_in_flight (enter_all_in_flight p.ins (begin flown))) = subst (InFlight 0) (lit-on_the_way p.ins (begin flown)) (enters-flying p.ins 0 (begin (relit flown)) b) in
      omega (arith, g.walked, sum-most _ g.fit.few)

  module _ (d : Desc (view t)) (s : MovesAreLegal p t) where
    leave : view flown ≡ left (left? p.out) (view t)
    leave = depart-view p.out t s.once

    enter : entries p.ins flown.tasks ≡ entries p.ins (out_tasks p.out t.tasks (head_of (line t)).0)
    enter = ap (entries p.ins) (out-tasks p.out t)

    flown_desc : Desc (view flown)
    flown_desc = rw leave (left_desc (left? p.out) (view t) d)

    pub plan-walked : (apply_in_flight p t).walked ≡ walk (moves_of p t).ins (left (moves_of p t).out (view t))
    unfolding apply_in_flight moves_of
    plan-walked = omega (arith, walked-is p.ins (begin flown) s.entering flown_desc, ap₂ walk enter leave)

    pub plan-each : FindsRoom p.ins flown → EachWalks (moves_of p t).ins (left (moves_of p t).out (view t))
    unfolding moves_of
    plan-each r = subst₂ EachWalks enter leave (each-walks p.ins flown s.entering r flown_desc)
