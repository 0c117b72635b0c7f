-- A departure, an entry and a renumbering keep the two tables alike, and so does every plan; as many are passed over.
use Prim.Native.Nat.{ℕ, zero, suc, ◌≤◌, ◌<◌}
use mathlib.Core.Path.{◌≡◌, refl, sym, ap, ◌∙◌}
use mathlib.Core.Bool.{true, false}
use mathlib.Core.List.{List, [], ◌∷◌, tail, map}
use native.Mathlib.Omega.{arith}
use borrow.Author.Tests.{eqb-true, eqb-false, lt-ltb, ltb-true, ltb-false}
use lib.Dec.{eqb, ltb}
use lib.ListN.{length, length-map}
use Rattle.records.specs.declared.TaskNo.{TaskNo}
use Rattle.executive.specs.declared.Task.{Task}
use Rattle.executive.specs.declared.Table.{Table}
use Rattle.executive.specs.Configuration.{zero_table}
use Rattle.executive.specs.Lists.{one}
use Rattle.executive.specs.Places.{nobody, task_at, put_at, times_in, entry_place}
use Rattle.executive.specs.States.{ready, is}
use Rattle.executive.specs.Table.{line, enter_at, ahead_of, head_of, departed, entered, passed_by, Out, stays, leaves, Join, depart, enter_in_flight, enter_all_in_flight, begin}
use Rattle.executive.proofs.Assured.{LeavesUnready, AllEnter}
use Rattle.scan.specs.declared.Entry.{Entry}
use Rattle.scan.specs.declared.Scanned.{Scanned}
use Rattle.scan.specs.declared.Work.{Work}
use Rattle.scan.specs.Entries.{most_arrivals, entry, no_entry, tasks_in, entry_at, put_entry, is_ready, count_of, is_at_least}
use Rattle.scan.specs.Choosing.{chosen_no, IsReady, arrival_in, priority_in}
use Rattle.scan.specs.Moves.{departed_scan, depart_scan, renumbered_in, renumbered, with_room, put_in, entered_scan, passed_scan, enter_scan, enter_all_scan}
use Rattle.scan.specs.Sound.{Arrivals}
use Rattle.scan.proofs.Basics.{decide, one-small, one_true, one_false, sum-most, line-pad}
use Rattle.scan.proofs.Places.{Has, at_same, at_other, put_length, tasks-at, tasks_put, tasks-length, sum_put}
use Rattle.scan.proofs.Order.{Before, head_in, tail_in, sorted-same, after-at, after-all, Sorted}
use Rattle.scan.proofs.Numbering.{departed-numbers, entered-numbers, renumbered-numbers, new-ready, new-task, order-kept, tasks-stay}
use Rattle.scan.proofs.Alike.{Alike, times-enter, enter-sorted, ahead-same, ahead-sum, line-sum, counted, unready, head-chosen, tail-order, head-has}

-- a task's state, as a test and as a count
unready-of : (x : Task) → is ready x.state ≡ 0 → is_ready (entry x 0) ≡ false
unready-of x h = one_false _ h

ready_of : (x : Task) → is ready x.state ≡ 1 → is_ready (entry x 0) ≡ true
ready_of x h = one_true _ (omega (arith, h))

module _ (e : Scanned) (t : Table) (a : Alike e t) where
  abbrev es : List Entry
  es = e.entries

  pub task-there : (k : ℕ) → (entry_at es k).task ≡ task_at t.tasks k
  task-there k = sym (tasks-at es k) ∙ ap (λ (ts : List Task). task_at ts k) a.tasks

  -- ---- a departure
  numbers-out : (x : Task) → is_ready (entry x 0) ≡ false → (n : ℕ) → (0 < n → Has es n) → Arrivals (record { entries = put_entry es n (entry x 0); last = e.last; rest = e.rest })
  unfolding put_entry
  numbers-out x u zero h = a.numbers
  numbers-out x u (suc i) h = departed-numbers e a.numbers (suc i) x (h (omega arith)) u

  pub departed-alike : (x : Task) → is_ready (entry x 0) ≡ false
      → Alike (record { entries = put_entry es (head_of (line t)).0 (entry x 0); last = e.last; rest = e.rest }) (departed x t)
  unfolding departed
  departed-alike x u = record {
    tasks = tasks_put es (head_of (line t)).0 (entry x 0) ∙ ap (λ (ts : List Task). put_at ts (head_of (line t)).0 x) a.tasks;
    rest = a.rest;
    size = put_length es (head_of (line t)).0 (entry x 0) ∙ a.size;
    numbers = numbers-out x u (head_of (line t)).0 (head-has es x u (line t) a.order);
    order = rw (line-pad nobody 16 (tail (line t))) (tail-order es x u (line t) a.order);
  }

  pub depart-alike : (o : Out) → LeavesUnready o (task_at t.tasks (head_of (line t)).0) → Alike (depart_scan o e) (depart o t)
  unfolding depart_scan depart departed_scan
  depart-alike stays h = a
  depart-alike (leaves f) h =
      let c : chosen_no es ≡ head_of (line t) = sym (head-chosen e t a) in
      let z : (entry_at es (chosen_no es).0).task ≡ task_at t.tasks (head_of (line t)).0 = ap (λ (k : TaskNo). (entry_at es k.0).task) c ∙ task-there (head_of (line t)).0 in
      rw (z, c) (departed-alike (f (task_at t.tasks (head_of (line t)).0)) (unready-of (f (task_at t.tasks (head_of (line t)).0)) h))

  -- ---- a renumbering
  pub renumbered-alike : Alike (renumbered e) t
  unfolding renumbered
  renumbered-alike = record {
    tasks = tasks-stay e a.numbers ∙ a.tasks;
    rest = a.rest;
    size = length-map es (renumbered_in es) ∙ a.size;
    numbers = renumbered-numbers e a.numbers a.size;
    order = record { exact = λ k. a.order.exact k ∙ sym (ap one (new-ready e a.numbers k)); sorted = again (line t) (λ k g. there k g) a.order.sorted };
  }
    where
      there : (k : ℕ) → 0 < times_in k (line t) → IsReady es k
      there k g = one_true _ (omega (arith, a.order.exact k))

      before : (i j : ℕ) → IsReady es i → IsReady es j → Before (entry_at es i) (entry_at es j) → Before (entry_at (map (renumbered_in es) es) i) (entry_at (map (renumbered_in es) es) j)
      before i j p q b =
          let x : priority_in (map (renumbered_in es) es) i ≡ priority_in es i = ap (λ (y : Task). y.priority) (new-task e a.numbers i) in
          let y : priority_in (map (renumbered_in es) es) j ≡ priority_in es j = ap (λ (y : Task). y.priority) (new-task e a.numbers j) in
          record { high = omega (arith, x, y, b.high); early = λ z. order-kept e a.numbers i j p q (b.early (omega (arith, x, y, z))) }

      again : (r : List TaskNo) → ((k : ℕ) → 0 < times_in k r → IsReady es k) → Sorted es r → Sorted (map (renumbered_in es) es) r
      again [] h s = tt
      again (j ∷ js) h s =
          let l : (k : ℕ) → 0 < times_in k js → IsReady es k = λ k g. h k (omega (arith, tail_in k j js)) in
          (after-all (map (renumbered_in es) es) (entry_at (map (renumbered_in es) es) j.0) js (λ k g. before j.0 k (h j.0 (omega (arith, head_in j js))) (l k g) (after-at es (entry_at es j.0) js k s.0 g)), again js l s.1)

-- the table with a number left to give, and what is as it was
pub record Roomy (e f : Scanned) (t : Table) : Type 0 where
  pub alike : Alike f t
  pub left : f.last < most_arrivals
  pub ready : (k : ℕ) → is_ready (entry_at f.entries k) ≡ is_ready (entry_at e.entries k)
  pub order : (i j : ℕ) → IsReady e.entries i → IsReady e.entries j → arrival_in e.entries i < arrival_in e.entries j → arrival_in f.entries i < arrival_in f.entries j

few-ready : (e : Scanned) (t : Table) → Alike e t → (renumbered e).last < most_arrivals
unfolding renumbered
few-ready e t a = omega (arith, sum-most (λ (x : Entry). one (is_ready x)) (λ x. one-small (is_ready x)) e.entries, a.size)

same-ready : (e : Scanned) (t : Table) → Alike e t → (k : ℕ) → is_ready (entry_at (renumbered e).entries k) ≡ is_ready (entry_at e.entries k)
unfolding renumbered
same-ready e t a k = new-ready e a.numbers k

same-order : (e : Scanned) (t : Table) → Alike e t → (i j : ℕ) → IsReady e.entries i → IsReady e.entries j → arrival_in e.entries i < arrival_in e.entries j
    → arrival_in (renumbered e).entries i < arrival_in (renumbered e).entries j
unfolding renumbered
same-order e t a i j p q h = order-kept e a.numbers i j p q h

pub room-alike : (e : Scanned) (t : Table) → Alike e t → Roomy e (with_room e) t
unfolding with_room
room-alike e t a = decide (eqb e.last most_arrivals)
    (λ z. rw z (record { alike = renumbered-alike e t a; left = few-ready e t a; ready = same-ready e t a; order = same-order e t a }))
    (λ z. rw z (record { alike = a; left = less e.last a.numbers.last (eqb-false e.last most_arrivals z); ready = λ k. refl; order = λ i j p q h. h }))
  where
    less : (n : ℕ) → n ≤ most_arrivals → (n ≡ most_arrivals → ⊥) → n < most_arrivals
    less n h z = decide (ltb n most_arrivals) (λ e. ltb-true n most_arrivals e) (λ e. absurd (z (omega (arith, ltb-false n most_arrivals e))))

module _ (e : Scanned) (t : Table) (a : Alike e t) (k : TaskNo) (x : Task) (h : Has e.entries k.0) (u : is_ready (entry_at e.entries k.0) ≡ false) where
  abbrev ds : List Entry
  ds = e.entries

  absent : times_in k.0 (line t) ≡ 0
  absent = a.order.exact k.0 ∙ ap one u

  elsewhere : (j : ℕ) → 0 < times_in j (line t) → eqb j k.0 ≡ false
  elsewhere j g = decide (eqb j k.0) (λ z. absurd (omega (arith, absent, ap (λ (n : ℕ). times_in n (line t)) (eqb-true j k.0 z)))) (λ z. z)

  abbrev y : Entry
  y = entry x (suc e.last)

  abbrev fs : List Entry
  fs = put_entry ds k.0 y

  -- ---- an entry
  pub put_alike : is_ready (entry x 0) ≡ true → e.last < most_arrivals → Alike (put_in k x e) (entered k x t)
  unfolding entered
  put_alike r l = record {
    tasks = tasks_put ds k.0 y ∙ ap (λ (ts : List Task). put_at ts k.0 x) a.tasks;
    rest = a.rest;
    size = put_length ds k.0 y ∙ a.size;
    numbers = entered-numbers e a.numbers k.0 x h u r l;
    order = rw (line-pad nobody 16 (enter_at (put_at t.tasks k.0 x) k (line t)), ← a.tasks, ← tasks_put ds k.0 y)
        (record { exact = exact; sorted = enter-sorted fs k (line t) (sorted-same ds fs (line t) (λ j g. sym (at_other ds k.0 j y (elsewhere j g))) a.order.sorted) later });
  }
    where
      exact : (i : ℕ) → times_in i (enter_at (tasks_in fs) k (line t)) ≡ one (is_ready (entry_at fs i))
      exact i = times-enter (tasks_in fs) k i (line t) ∙ decide (eqb i k.0)
          (λ z. let w : i ≡ k.0 = eqb-true i k.0 z in
          let v : one (is_ready (entry_at fs i)) ≡ 1 = ap (λ (n : ℕ). one (is_ready (entry_at fs n))) w ∙ ap (λ (q : Entry). one (is_ready q)) (at_same ds k.0 y h) ∙ ap one r in
          let n : times_in i (line t) ≡ 0 = ap (λ (n : ℕ). times_in n (line t)) w ∙ absent in
          omega (arith, ap one z, v, n))
          (λ z. let v : one (is_ready (entry_at fs i)) ≡ one (is_ready (entry_at ds i)) = ap (λ (q : Entry). one (is_ready q)) (at_other ds k.0 i y z) in
          omega (arith, ap one z, v, a.order.exact i))

      later : (j : ℕ) → 0 < times_in j (line t) → arrival_in fs j < arrival_in fs k.0
      later j g =
          let p : arrival_in fs j ≡ arrival_in ds j = ap (λ (q : Entry). q.arrival) (at_other ds k.0 j y (elsewhere j g)) in
          let q : arrival_in fs k.0 ≡ suc e.last = ap (λ (q : Entry). q.arrival) (at_same ds k.0 y h) in
          omega (arith, p, q, a.numbers.given j)

  -- as many are passed over
  pub passed-alike : passed_scan k x e ≡ passed_by k x t
  passed-alike =
      let p : ℕ = x.priority in
      let y : Entry = entry x 0 in
      let own : (task_at (put_at t.tasks k.0 x) k.0).priority ≡ p =
      ap (λ (ts : List Task). (task_at (put_at ts k.0 x) k.0).priority) (sym a.tasks)
      ∙ ap (λ (ts : List Task). (task_at ts k.0).priority) (sym (tasks_put ds k.0 y))
      ∙ ap (λ (q : Task). q.priority) (tasks-at (put_entry ds k.0 y) k.0)
      ∙ ap (λ (q : Entry). q.task.priority) (at_same ds k.0 y h) in
      let others : ahead_of (put_at t.tasks k.0 x) p (line t) ≡ ahead_of (tasks_in ds) p (line t) =
      ap (λ (ts : List Task). ahead_of (put_at ts k.0 x) p (line t)) (sym a.tasks)
      ∙ ap (λ (ts : List Task). ahead_of ts p (line t)) (sym (tasks_put ds k.0 y))
      ∙ ahead-same (tasks_in (put_entry ds k.0 y)) (tasks_in ds) p (line t)
      (λ j g. tasks-at (put_entry ds k.0 y) j ∙ ap (λ (q : Entry). q.task) (at_other ds k.0 j y (elsewhere j g)) ∙ sym (tasks-at ds j)) in
      let s = sum_put (counted p) ds k.0 no_entry h in
      let z : counted p (entry_at ds k.0) ≡ 0 = unready p (entry_at ds k.0) u in
      let aside : count_of (is_at_least p) (put_entry ds k.0 no_entry) ≡ count_of (is_at_least p) ds = omega (arith, s, z) in
      aside ∙ sym (line-sum p ds (line t) a.order.exact) ∙ sym (ahead-sum ds p (line t) a.order.sorted) ∙ sym others
      ∙ ap (λ (n : ℕ). ahead_of (put_at t.tasks k.0 x) n (line t)) (sym own)

-- ---- those who enter, one after the other; the first engine's step in flight
abbrev type_of : {A : Type 0} → A → Type 0
type_of {A = A} x = A

abbrev pub Flown : Type 0
Flown = type_of (begin zero_table)

pub record AlikeInFlight (w : Work) (v : Flown) : Type 0 where
  pub table : Alike w.table v.table
  pub walked : w.walked ≡ v.walked

pub named-place : (n : ℕ) → 0 < n → n ≤ 16 → ltb (entry_place n) 16 ≡ true
unfolding entry_place
named-place zero h l = absurd (omega arith)
named-place (suc i) h l = rw (lt-ltb i 16 (omega arith)) (lt-ltb i 16 (omega arith))

enter_one : (w : Work) (v : Flown) → AlikeInFlight w v → (k : TaskNo) (x : Task) → Has w.table.entries k.0
    → is_ready (entry_at w.table.entries k.0) ≡ false → is_ready (entry x 0) ≡ true → AlikeInFlight (enter_scan k x w) (enter_in_flight k x v)
unfolding enter_scan enter_in_flight entered_scan
enter_one w v f k x h u r =
    let q = room-alike w.table v.table f.table in
    let g : Has (with_room w.table).entries k.0 = (h.0, omega (arith, h.1, q.alike.size, f.table.size)) in
    rw (named-place k.0 h.0 (omega (arith, h.1, f.table.size)))
    (record {
      table = put_alike (with_room w.table) v.table q.alike k x g (q.ready k.0 ∙ u) r q.left;
      walked = omega (arith, f.walked, passed-alike w.table v.table f.table k x h u);
    })

-- the first of those who enter: it is a task, was not ready, and is; after it the tables are alike, and the others enter
pub record Joining (j : Join) (js : List Join) (w : Work) (v : Flown) : Type 0 where
  pub has : Has w.table.entries j.who.0
  pub before : is_ready (entry_at w.table.entries j.who.0) ≡ false
  pub after : is_ready (entry (j.change (entry_at w.table.entries j.who.0).task) 0) ≡ true
  pub on : AlikeInFlight (enter_scan j.who (j.change (entry_at w.table.entries j.who.0).task) w) (enter_in_flight j.who (j.change (task_at v.table.tasks j.who.0)) v)
  pub rest : AllEnter js (enter_in_flight j.who (j.change (task_at v.table.tasks j.who.0)) v).table.tasks

pub joining : (j : Join) (js : List Join) (w : Work) (v : Flown) → AlikeInFlight w v → AllEnter (j ∷ js) v.table.tasks → Joining j js w v
unfolding enter_in_flight entered
joining j js w v f h =
    let k : ℕ = j.who.0 in
    let es : List Entry = w.table.entries in
    let z : (entry_at es k).task ≡ task_at v.table.tasks k = task-there w.table v.table f.table k in
    let has : Has es k = (h.0.names.0, omega (arith, h.0.names.1, sym (ap length f.table.tasks), tasks-length es)) in
    let u : is_ready (entry_at es k) ≡ false = ap (λ (y : Task). is_ready (entry y 0)) z ∙ unready-of (task_at v.table.tasks k) h.0.before in
    let r : is_ready (entry (j.change (task_at v.table.tasks k)) 0) ≡ true = ready_of (j.change (task_at v.table.tasks k)) h.0.after in
    record { has = has; before = u; after = rw z r; on = rw z (enter_one w v f j.who (j.change (task_at v.table.tasks k)) has u r); rest = h.1 }

pub enters-alike : (js : List Join) (w : Work) (v : Flown) → AlikeInFlight w v → AllEnter js v.table.tasks → AlikeInFlight (enter_all_scan js w) (enter_all_in_flight js v)
unfolding enter_all_scan enter_all_in_flight
enters-alike [] w v f h = f
enters-alike (j ∷ js) w v f h = let c = joining j js w v f h in enters-alike js _ _ c.on c.rest
