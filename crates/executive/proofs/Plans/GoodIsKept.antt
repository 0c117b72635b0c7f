-- A plan that is good keeps the table well formed, is sound, and has room for all who enter: shown once, for every plan.
use mathlib.Core.Path.{◌≡◌, refl, ap, ◌∙◌}
use mathlib.Core.List.{List, [], ◌∷◌, tail}
use Prim.Native.Nat.{ℕ, suc, ◌+◌, ◌≤◌, ◌<◌}
use native.Mathlib.Omega.{arith}
use lib.ListN.{length}
use Rattle.records.specs.declared.TaskNo.{TaskNo}
use Rattle.executive.specs.declared.Task.{Task}
use Rattle.executive.specs.declared.Rest.{Rest}
use Rattle.executive.specs.declared.Table.{Table}
use Rattle.executive.specs.declared.Work.{Work}
use Rattle.executive.specs.Queue.{count}
use Rattle.executive.specs.Table.{ArraysInOrder, line, items, relit, head_of, Out, stays, leaves, Join, Plan, FindsRoom, entered, depart, join, joins, with_rest, apply, begin, enter_in_flight, enter_all_in_flight, apply_in_flight, change-at, out_tasks}
use Rattle.executive.specs.Pool.{requests}
use Rattle.executive.specs.Places.{task_at, put_at}
use Rattle.executive.specs.States.{ready, is, is_ready}
use Rattle.executive.specs.WellFormed.{Line}
use Rattle.executive.proofs.Plans.WorkingForm.{EntriesOk, LinksOk, RestOk, SubsOk, WellFormedByPart}
use Rattle.executive.proofs.queue.ArraysAreLists.{enter-length, line-length, departed-fit, entered-fit}
use Rattle.executive.proofs.Plans.Moves.{Entering, MovesAreLegal, out-tasks, leave-line}
use Rattle.executive.proofs.messages.Kept.{MailOk, mail-calm}
use Rattle.executive.proofs.Plans.QueueKept.{Joins, not-both, join_kept, head-is, line-out}
use Rattle.executive.proofs.Plans.Size.{room-to-enter}

-- the tasks after the caller's departure, and after the entries
unfoldable pub puts : List Join → List Task → List Task
puts [] ts = ts
puts (j ∷ js) ts = puts js (change-at ts j.who.0 j.change)

abbrev pub out_ready : Out → Task → ℕ
out_ready stays e = 0
out_ready (leaves f) e = is ready (f e).state

abbrev pub JoinsAll : List Join → List Task → Type 0
JoinsAll [] ts = Unit {0}
JoinsAll (j ∷ js) ts = Joins j ts × JoinsAll js (change-at ts j.who.0 j.change)

-- the tasks after a plan
abbrev pub after-tasks : Plan → Table → List Task
after-tasks p t = puts p.ins (out_tasks p.out t.tasks (head_of (line t)).0)

-- what a kind of call has to show of its plan
pub record Good (p : Plan) (t : Table) : Type 0 where
  pub leaving : out_ready p.out (task_at t.tasks (head_of (line t)).0) ≡ 0
  pub joining : JoinsAll p.ins (out_tasks p.out t.tasks (head_of (line t)).0)
  pub linked : LinksOk (after-tasks p t) (requests p.rest)
  pub own : EntriesOk p.rest (after-tasks p t)
  pub rested : RestOk p.rest
  pub lined : SubsOk (after-tasks p t) p.rest.subs
  -- before anybody enters: who enters is ready then, and that keeps it
  pub mailed : MailOk (out_tasks p.out t.tasks (head_of (line t)).0) p.rest

-- those who enter wait for no message and are not dormant
pub mail-joins : {r : Rest} (js : List Join) (ts : List Task) → JoinsAll js ts → MailOk ts r → MailOk (puts js ts) r
unfolding puts
mail-joins [] ts h o = o
mail-joins {r} (j ∷ js) ts h o =
    let e : Task = j.change (task_at ts j.who.0) in
    let x = not-both e.state in
    mail-joins js (put_at ts j.who.0 e) h.1 (mail-calm ts j.who.0 e r h.0.names (omega (arith, x, h.0.after)) o)

pub joins-tasks : (js : List Join) (t : Table) → (joins js t).tasks ≡ puts js t.tasks
unfolding joins puts join entered
joins-tasks [] t = refl
joins-tasks (j ∷ js) t = joins-tasks js (join j t)

-- in flight the same table comes about
joins_in_flight : (js : List Join) (w : Work) → (enter_all_in_flight js w).table ≡ joins js w.table
unfolding joins join enter_all_in_flight enter_in_flight
joins_in_flight [] w = refl
joins_in_flight (j ∷ js) w = joins_in_flight js _

pub plan_in_flight : (p : Plan) (t : Table) → (apply_in_flight p t).table ≡ apply p t
unfolding apply apply_in_flight
plan_in_flight p t = ap (λ (u : Table). relit (with_rest p.rest u)) (joins_in_flight p.ins (begin (depart p.out t)))

-- what the entries come to, one after the other
pub record JoinsKeep (js : List Join) (t : Table) : Type 0 where
  pub queue : Line is_ready (joins js t).tasks (line (joins js t))
  pub entering : Entering js t
  pub fit : ArraysInOrder (joins js t)
  pub room : FindsRoom js t
  pub size : t.ready + length js ≤ 16

joined-fit : (j : Join) (t : Table) → ArraysInOrder t → t.ready < 16 → ArraysInOrder (join j t)
unfolding join
joined-fit j t f m = entered-fit t f j.who (j.change (task_at t.tasks j.who.0)) m

joined-ready : (j : Join) (t : Table) → (join j t).ready ≡ suc (length (line t))
unfolding join entered
joined-ready j t = enter-length _ j.who (line t)

joined-tasks : (j : Join) (t : Table) → (join j t).tasks ≡ change-at t.tasks j.who.0 j.change
unfolding join entered
joined-tasks j t = refl

pub joins-kept : (js : List Join) (t : Table) → ArraysInOrder t → Line is_ready t.tasks (line t) → JoinsAll js t.tasks → JoinsKeep js t
unfolding joins
joins-kept [] t f q h = record { queue = q; entering = tt; fit = f; room = tt; size = omega (arith, f.few) }
joins-kept (j ∷ js) t f q h =
    let l : length (line t) < 16 = room-to-enter j t.tasks (line t) f.all q h.0 in
    let n : length (line t) ≡ t.ready = line-length t f in
    let m : t.ready < 16 = omega arith in
    let r : JoinsKeep js (join j t) = joins-kept js (join j t) (joined-fit j t f m) (join_kept j t q h.0) (rw (joined-tasks j t) h.1) in
    record {
      queue = r.queue;
      entering = (record { names = h.0.names; absent = q.exact j.who.0 ∙ h.0.before }, r.entering);
      fit = r.fit;
      room = (q.exact j.who.0 ∙ h.0.before, m, r.room);
      size = omega (arith, r.size, joined-ready j t);
    }

nobody_put : (ts : List Task) (e : Task) → Line is_ready ts [] → Line is_ready (put_at ts 0 e) []
unfolding put_at
nobody_put ts e q = q

out-kept : (o : Out) (t : Table) → ArraysInOrder t → Line is_ready t.tasks (line t) → out_ready o (task_at t.tasks (head_of (line t)).0) ≡ 0 → ArraysInOrder (depart o t) × Line is_ready (depart o t).tasks (line (depart o t))
unfolding depart
out-kept stays t f q h = (f, q)
out-kept (leaves g) t f q h = (departed-fit t f (g (task_at t.tasks (head_of (line t)).0)), rw (leave-line g t, out-tasks (leaves g) t) (go (line t) q h))
  where
    go : (r : List TaskNo) → Line is_ready t.tasks r → is ready (g (task_at t.tasks (head_of r).0)).state ≡ 0 → Line is_ready (change-at t.tasks (head_of r).0 g) (tail r)
    go [] q h = nobody_put t.tasks (g (task_at t.tasks 0)) q
    go (c ∷ r) q h = line-out is_ready t.tasks c (g (task_at t.tasks c.0)) r refl q h

pub once : (ts : List Task) (r : List TaskNo) → Line is_ready ts r → count (head_of r).0 (items ts (tail r)) ≡ 0
unfolding items count
once ts [] q = refl
once ts (c ∷ r) q = (head-is is_ready ts c r refl q).alone

pub record GoodOutcome (p : Plan) (t : Table) : Type 0 where
  pub formed : WellFormedByPart (apply p t)
  pub sound : MovesAreLegal p t
  pub room : FindsRoom p.ins (depart p.out t)
  pub size : (depart p.out t).ready + length p.ins ≤ 16

-- for what the moves come to, what is stored does not matter
pub moves-kept : (o : Out) (js : List Join) (t : Table) → WellFormedByPart t → out_ready o (task_at t.tasks (head_of (line t)).0) ≡ 0 → JoinsAll js (out_tasks o t.tasks (head_of (line t)).0)
    → JoinsKeep js (depart o t)
moves-kept o js t w z g =
    let q : ArraysInOrder (depart o t) × Line is_ready (depart o t).tasks (line (depart o t)) = out-kept o t w.fit w.queue z in
    joins-kept js (depart o t) q.0 q.1 (rw (out-tasks o t) g)

pub apply-kept : (p : Plan) (t : Table) → WellFormedByPart t → Good p t → GoodOutcome p t
unfolding apply
apply-kept p t w g =
    let d : Table = depart p.out t in
    let e : d.tasks ≡ out_tasks p.out t.tasks (head_of (line t)).0 = out-tasks p.out t in
    let k : JoinsKeep p.ins d = moves-kept p.out p.ins t w g.leaving g.joining in
    let f : (joins p.ins d).tasks ≡ after-tasks p t = joins-tasks p.ins d ∙ ap (puts p.ins) e in
    record {
      formed = record {
        fit = record { all = k.fit.all; few = k.fit.few; tidy = k.fit.tidy; neat = g.rested.neat };
        queue = k.queue;
        links = rw f g.linked;
        own = rw f g.own;
        rested = g.rested;
        lit = refl;
        lined = rw f g.lined;
        mailed = rw f (mail-joins p.ins (out_tasks p.out t.tasks (head_of (line t)).0) g.joining g.mailed);
      };
      sound = record { once = once t.tasks (line t) w.queue; entering = k.entering };
      room = k.room;
      size = k.size;
    }
