-- A deed on the way in an image: those who enter, one after the other.
use Prim.Native.Nat.{ℕ, suc, ◌+◌, ◌-◌, ◌≤◌, ◌<◌}
use mathlib.Core.Path.{◌≡◌, refl, sym, ap, subst, ◌∙◌}
use mathlib.Core.List.{List, [], ◌∷◌, tail}
use native.Mathlib.Omega.{arith}
use lib.ListN.{length, get_or, take, drop}
use Rattle.records.specs.declared.TaskNo.{TaskNo}
use Rattle.executive.specs.declared.Millis.{Millis}
use Rattle.executive.specs.declared.Request.{Request}
use Rattle.executive.specs.declared.Rest.{Rest}
use Rattle.executive.specs.declared.Task.{Task}
use Rattle.executive.specs.declared.Table.{Table}
use Rattle.executive.specs.declared.decisions.Leave.{Leave}
use Rattle.executive.specs.declared.decisions.Leave.TheVariants as leave
use Rattle.executive.specs.declared.decisions.Entrant.{Entrant}
use Rattle.executive.specs.declared.decisions.Deed.{Deed}
use Rattle.executive.specs.Places.{nobody, task_at, put_at}
use Rattle.executive.specs.Queue.{Desc, count}
use Rattle.executive.specs.States.{is_ready}
use Rattle.executive.specs.WellFormed.{Line}
use Rattle.executive.specs.Messages.{no_mail, with_mail}
use Rattle.executive.specs.Table.{ArraysInOrder, FindsRoom, InFlight, Join, Out, line, items, item_of, enter_at, head_of, stays, leaves, view, levels_of, relit, depart, departed, entered, passed_by, with_rest, begin, enter_in_flight, enter_all_in_flight, lit_in_flight, apply_in_flight}
use Rattle.executive.specs.Plans.{caller}
use Rattle.executive.specs.Decisions.{named, out_for, gone_as, change_for, joins_for, changed, meant, Doable}
use Rattle.executive.proofs.Assured.{blank, enter-turn, find-turn, enter-end, changed-neat, done-is, lit-same, begin-flying, depart-fit, finds-beside, enter-flying, lit-on_the_way, lit-flying, line-pad, items_put, insert_desc, queue_law, eqb_self, one-le}
use Rattle.image.specs.Laid.{Laid}

-- ---- the line descends after each move
pub entered-sorted : (t : Table) (k : TaskNo) (e : Task) → count k.0 (view t) ≡ 0 → Desc (view t) → Desc (view (relit (entered k e t)))
unfolding entered
entered-sorted t k e a d =
    let ts : List Task = put_at t.tasks k.0 e in
    rw (line-pad nobody 16 (enter_at ts k (line t)), queue_law.numbers ts k (line t), items_put t.tasks k.0 e (line t) a) (insert_desc (item_of ts k) (view t) d)

pub depart-sorted : (o : Out) (t : Table) → Line is_ready t.tasks (line t) → Desc (view (depart o t))
unfolding depart departed items count
depart-sorted stays t q = q.sorted
depart-sorted (leaves f) t q = rw (line-pad nobody 16 (tail (line t))) (go (line t) q)
  where
    go : (r : List TaskNo) → Line is_ready t.tasks r → Desc (items (put_at t.tasks (head_of r).0 (f (task_at t.tasks (head_of r).0))) (tail r))
    go [] q = tt
    go (k ∷ r) q =
        let z = rw (eqb_self k.0) at (q.exact k.0) in
        rw (items_put t.tasks k.0 (f (task_at t.tasks k.0)) r (omega (arith, z, one-le (is_ready (task_at t.tasks k.0).state)))) q.sorted.1

-- ---- those who are still to enter, from a table on the way that the bytes are the image of, w being passed over so far: the
-- whole is the table u, with n passed over
pub record Entering (b : List ℕ) (w : ℕ) (js : List Join) (m : ℕ) (u : Table) (n : ℕ) : Type 0 where
  pub table : Table
  pub laid : Laid b table
  pub flying : InFlight m (record { table = table; walked = w })
  pub finds : FindsRoom js table
  pub sorted : Desc (view table)
  pub left : lit_in_flight (enter_all_in_flight js (record { table = table; walked = w })) ≡ record { table = u; walked = n }

module _ (q : Request) (time : Millis) (ps : List Entrant) (n : ℕ) (h : n ≤ length ps) (u : Table) (all : ℕ) where
  abbrev pub Stage : List ℕ → ℕ → ℕ → Type 0
  Stage b w i = Entering b w (joins_for q time (drop i (take n ps))) (n - i) u all

  pub stage_turn : {b d : List ℕ} (w r i : ℕ) → i < n → Stage b w i
      → ((t : Table) → Laid b t → ArraysInOrder t → t.ready < 16 → t.levels ≡ levels_of (view t) → Desc (view t) → count (get_or ps i blank).who.0 (view t) ≡ 0
      → Laid d (relit (entered (get_or ps i blank).who (change_for q time (get_or ps i blank).how (task_at t.tasks (get_or ps i blank).who.0)) t))
      × (r ≡ passed_by (get_or ps i blank).who (change_for q time (get_or ps i blank).how (task_at t.tasks (get_or ps i blank).who.0)) t))
      → Stage d (w + r) (i + 1)
  unfolding enter_in_flight
  stage_turn {b} {d} w r i g e f =
      let k = (get_or ps i blank).who in
      let t = e.table in
      let x = change_for q time (get_or ps i blank).how (task_at t.tasks k.0) in
      let z : n - i ≡ suc (n - (i + 1)) = omega arith in
      let a = find-turn ps n q time (record { table = t; walked = w }) i h g e.finds in
      let room : t.ready < 16 = omega (arith, e.flying.room) in
      let y = f t e.laid e.flying.fit room e.flying.lit e.sorted a.0 in
      let fl : InFlight (suc (n - (i + 1))) (record { table = t; walked = w }) = rw z at e.flying in
      let on : Stage d (w + passed_by k x t) (i + 1) = record {
        table = relit (entered k x t);
        laid = y.0;
        flying = enter-flying (n - (i + 1)) k x (record { table = t; walked = w }) fl;
        finds = a.1;
        sorted = entered-sorted t k x a.0 e.sorted;
        left = lit-on_the_way _ _ ∙ ap lit_in_flight (enter-turn ps n q time (record { table = t; walked = w }) i h g) ∙ e.left;
      } in
      subst (λ m. Stage d (w + m) (i + 1)) (sym y.1) on

  pub stage_end : {b : List ℕ} (w i : ℕ) → n ≤ i → Stage b w i → Laid b u × (w ≡ all)
  stage_end {b} w i g e =
      let v = lit-flying _ (record { table = e.table; walked = w }) e.flying in
      let k = enter-end ps n q time (record { table = e.table; walked = w }) i g in
      let l = sym (ap lit_in_flight k) ∙ e.left in
      (subst (Laid b) ((λ j. (v j).table) ∙ (λ j. (l j).table)) e.laid, (λ j. (v j).walked) ∙ (λ j. (l j).walked))

-- ---- one who stays
pub stays-laid : {s : List ℕ} (t : Table) → t.levels ≡ levels_of (view t) → Laid s t → Laid s (relit (depart (out_for leave.Stays) t))
unfolding depart
stays-laid {s} t v l = subst (Laid s) (lit-same t v) l

-- ---- one who leaves
pub left-laid : {s : List ℕ} (t : Table) (how : Leave) → (how ≡ leave.Stays → ⊥)
    → Laid s (relit (departed (gone_as how (task_at t.tasks (caller t).0)) t)) → Laid s (relit (depart (out_for how) t))
unfolding depart
left-laid t leave.Stays n l = absurd (n refl)
left-laid t leave.Sleeps n l = l
left-laid t (leave.DueAt at) n l = l
left-laid t (leave.As s) n l = l

-- ---- the whole of a deed: what its executor is asked for, and what it leaves
module _ (d : Deed) (t : Table) (o : Doable d t) where
  abbrev out : Out
  out = out_for d.leave

  abbrev js : List Join
  js = joins_for d.request t.rest.clock (named d.entrants)

  abbrev pub after : Rest
  after = with_mail d.empties.0 no_mail (changed d.change d.request t.rest)

  -- the table once the caller has left and the rest has changed
  abbrev pub midway : Table
  midway = with_rest after (relit (depart out t))

  pub midway-flying : InFlight d.entrants.count (begin midway)
  midway-flying =
      let n = changed-neat d.change d.request t.rest o.fit.neat o.able in
      let f = depart-fit out t o.fit in
      begin-flying _ _ (record { all = f.all; few = f.few; tidy = f.tidy; neat = record { room = n.room; clear = n.clear } }) o.room refl

  pub midway-finds : FindsRoom js midway
  midway-finds = finds-beside js (levels_of (view (depart out t))) after (depart out t) o.finds

  pub midway-sorted : Desc (view midway)
  midway-sorted = depart-sorted out t o.queue

  pub whole_is : lit_in_flight (enter_all_in_flight js (begin midway)) ≡ apply_in_flight (meant d t) t
  unfolding meant
  whole_is = done-is out js after t

  -- the rest that the change finds is the table's own
  pub rest-same : {b : List ℕ} (r : Rest) → r ≡ t.rest → Laid b (with_rest (with_mail d.empties.0 no_mail (changed d.change d.request r)) (relit (depart out t))) → Laid b midway
  rest-same {b} r e l = subst (λ (x : Rest). Laid b (with_rest (with_mail d.empties.0 no_mail (changed d.change d.request x)) (relit (depart out t)))) e l
