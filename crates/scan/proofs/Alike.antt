-- The two tables on the way: the same tasks and rest, and the queue in the order of choosing. A departure, an entry and
-- a renumbering keep it so, and so does every plan.
use Prim.Native.Nat.{ℕ, suc, ◌+◌, ◌≤◌, ◌<◌}
use mathlib.Core.Path.{◌≡◌, refl, sym, ap, ◌∙◌}
use mathlib.Core.Bool.{Bool, true, false, cond}
use mathlib.Core.List.{List, [], ◌∷◌, tail}
use native.Mathlib.Omega.{arith}
use borrow.Author.Tests.{eqb-true, leb-true, leb-false, lt-leb}
use lib.Dec.{eqb, leb}
use lib.ListN.{length}
use Rattle.records.specs.declared.TaskNo.{TaskNo}
use Rattle.executive.specs.declared.Task.{Task}
use Rattle.executive.specs.declared.Table.{Table}
use Rattle.executive.specs.Lists.{one, sum_of, ◌and◌}
use Rattle.executive.specs.Places.{task_at, times_in}
use Rattle.executive.specs.Queue.{behind}
use Rattle.executive.specs.Table.{line, enter_at, ahead_of, head_of}
use Rattle.scan.specs.declared.Entry.{Entry}
use Rattle.scan.specs.declared.Scanned.{Scanned}
use Rattle.scan.specs.Entries.{entry, no_entry, tasks_in, entry_at, put_entry, is_ready, count_of, is_at_least}
use Rattle.scan.specs.Choosing.{chosen, chosen_no, order_from, order_of, IsReady, arrival_in, priority_in}
use Rattle.scan.specs.Sound.{Arrivals}
use Rattle.scan.proofs.Basics.{decide, one-small, one_true, one_false, sum-most}
use Rattle.scan.proofs.Places.{Has, at_same, at_other, ready-has, tasks-at, sum_put, sum-none}
use Rattle.scan.proofs.Order.{Before, AllAfter, Sorted, InOrder, head_in, other_in, tail_in, after-at, after-all, sorted-same, one-order}
use Rattle.scan.proofs.Choices.{order_from_lem}
use Rattle.scan.proofs.Numbering.{apart}

-- ---- a line that one enters, behind all of equal or higher priority
module _ (ts : List Task) (k : TaskNo) where
  pub times-enter : (i : ℕ) (r : List TaskNo) → times_in i (enter_at ts k r) ≡ one (eqb i k.0) + times_in i r
  unfolding enter_at sum_of
  times-enter i [] = refl
  times-enter i (j ∷ js) = go (behind (task_at ts k.0).priority (task_at ts j.0).priority) (times-enter i js)
    where
      go : (b : Bool) → times_in i (enter_at ts k js) ≡ one (eqb i k.0) + times_in i js
          → times_in i (cond b (j ∷ enter_at ts k js) (k ∷ j ∷ js)) ≡ one (eqb i k.0) + times_in i (j ∷ js)
      go true ih = omega arith
      go false ih = refl

module _ (es : List Entry) (k : TaskNo) where
  abbrev ts : List Task
  ts = tasks_in es

  enter-after : (x : Entry) (r : List TaskNo) → Before x (entry_at es k.0) → AllAfter es x r → AllAfter es x (enter_at ts k r)
  enter-after x r b a = after-all es x (enter_at ts k r) (λ i g. decide (eqb i k.0)
      (λ e. rw (eqb-true i k.0 e) b)
      (λ e. after-at es x r i a (omega (arith, times-enter ts k i r, ap one e))))

  -- in order of priority, and its number is larger than theirs
  pub enter-sorted : (r : List TaskNo) → Sorted es r → ((j : ℕ) → 0 < times_in j r → arrival_in es j < arrival_in es k.0) → Sorted es (enter_at ts k r)
  unfolding enter_at behind
  enter-sorted [] s h = (tt, tt)
  enter-sorted (j ∷ js) s h = rw (tasks-at es k.0, tasks-at es j.0) (decide (leb (priority_in es k.0) (priority_in es j.0))
      (λ e. rw e (
        enter-after (entry_at es j.0) js (record { high = leb-true (priority_in es k.0) (priority_in es j.0) e; early = λ z. h j.0 (omega (arith, head_in j js)) }) s.0,
        enter-sorted js s.1 (λ i g. h i (omega (arith, tail_in i j js))),
      ))
      (λ e. let l : priority_in es j.0 < priority_in es k.0 = leb-false (priority_in es k.0) (priority_in es j.0) e in
      rw e (
        after-all es (entry_at es k.0) (j ∷ js) (λ i g.
            let m : (entry_at es i).task.priority ≤ priority_in es j.0 = lower i g in
            record { high = omega (arith, m); early = λ z. absurd (omega (arith, m, z)) }),
        s,
      )))
    where
      lower : (i : ℕ) → 0 < times_in i (j ∷ js) → (entry_at es i).task.priority ≤ priority_in es j.0
      lower i g = decide (eqb i j.0)
          (λ e. rw (eqb-true i j.0 e) (omega arith))
          (λ e. (after-at es (entry_at es j.0) js i s.0 (omega (arith, other_in i j js e))).high)

-- ---- how many stay ahead
pub ahead-same : (ts us : List Task) (p : ℕ) (r : List TaskNo) → ((j : ℕ) → 0 < times_in j r → task_at ts j ≡ task_at us j) → ahead_of ts p r ≡ ahead_of us p r
unfolding ahead_of
ahead-same ts us p [] h = refl
ahead-same ts us p (j ∷ js) h = rw (h j.0 (omega (arith, head_in j js)), ahead-same ts us p js (λ i g. h i (omega (arith, tail_in i j js)))) refl

module _ (es : List Entry) (p : ℕ) where
  abbrev pub high : TaskNo → ℕ
  high j = one (leb p (priority_in es j.0))

  none-high : (r : List TaskNo) → ((j : ℕ) → 0 < times_in j r → priority_in es j < p) → sum_of high r ≡ 0
  unfolding sum_of
  none-high [] h = refl
  none-high (j ∷ js) h = omega (arith, ap one (lt-leb p (priority_in es j.0) (h j.0 (omega (arith, head_in j js)))), none-high js (λ i g. h i (omega (arith, tail_in i j js))))

  pub ahead-sum : (r : List TaskNo) → Sorted es r → ahead_of (tasks_in es) p r ≡ sum_of high r
  unfolding ahead_of behind sum_of
  ahead-sum [] s = refl
  ahead-sum (j ∷ js) s = rw (tasks-at es j.0) (decide (leb p (priority_in es j.0))
      (λ e. rw e (omega (arith, ahead-sum js s.1)))
      (λ e. rw e (omega (arith, none-high js (λ i g. omega (arith, leb-false p (priority_in es j.0) e, (after-at es (entry_at es j.0) js i s.0 g).high))))))

-- ---- a sum over a line of exactly the ready tasks is a sum over the entries
module _ (p : ℕ) where
  abbrev pub counted : Entry → ℕ
  counted x = one (is_ready x and leb p x.task.priority)

  pub unready : (x : Entry) → is_ready x ≡ false → counted x ≡ 0
  unready x e = ap (λ (b : Bool). one (b and leb p x.task.priority)) e

  sum_same : (es fs : List Entry) (r : List TaskNo) → ((j : ℕ) → 0 < times_in j r → entry_at es j ≡ entry_at fs j) → sum_of (high es p) r ≡ sum_of (high fs p) r
  unfolding sum_of
  sum_same es fs [] h = refl
  sum_same es fs (j ∷ js) h = omega (arith, ap (λ (x : Entry). one (leb p x.task.priority)) (h j.0 (omega (arith, head_in j js))), sum_same es fs js (λ i g. h i (omega (arith, tail_in i j js))))

  pub line-sum : (es : List Entry) (r : List TaskNo) → ((k : ℕ) → times_in k r ≡ one (is_ready (entry_at es k))) → sum_of (high es p) r ≡ count_of (is_at_least p) es
  unfolding sum_of
  line-sum es [] h = sym (sum-none counted es (λ k. unready (entry_at es k) (one_false _ (sym (h k)))))
  line-sum es (c ∷ r) h =
      let rdy : IsReady es c.0 = one_true _ (omega (arith, h c.0, head_in c r)) in
      let has : Has es c.0 = ready-has es c.0 rdy in
      let fs : List Entry = put_entry es c.0 no_entry in
      let lone : times_in c.0 r ≡ 0 = omega (arith, h c.0, head_in c r, one-small (is_ready (entry_at es c.0))) in
      let out : (j : ℕ) → 0 < times_in j r → eqb j c.0 ≡ false = λ j g. decide (eqb j c.0) (λ e. absurd (omega (arith, lone, ap (λ (n : ℕ). times_in n r) (eqb-true j c.0 e)))) (λ e. e) in
      let ih : sum_of (high fs p) r ≡ sum_of counted fs = line-sum fs r (λ k. decide (eqb k c.0)
      (λ e. ap (λ (n : ℕ). times_in n r) (eqb-true k c.0 e) ∙ lone ∙ sym (ap (λ (x : Entry). one (is_ready x)) (ap (entry_at fs) (eqb-true k c.0 e) ∙ at_same es c.0 no_entry has)))
      (λ e. sym (other_in k c r e) ∙ h k ∙ sym (ap (λ (x : Entry). one (is_ready x)) (at_other es c.0 k no_entry e)))) in
      let same : sum_of (high es p) r ≡ sum_of (high fs p) r = sum_same es fs r (λ j g. sym (at_other es c.0 j no_entry (out j g))) in
      let s = sum_put counted es c.0 no_entry has in
      let own : counted (entry_at es c.0) ≡ one (leb p (priority_in es c.0)) = ap (λ (b : Bool). one (b and leb p (priority_in es c.0))) rdy in
      omega (arith, ih, same, s, own)

-- ---- the two tables
pub record Alike (e : Scanned) (t : Table) : Type 0 where
  pub tasks : tasks_in e.entries ≡ t.tasks
  pub rest : e.rest ≡ t.rest
  pub size : length e.entries ≡ 16
  pub numbers : Arrivals e
  pub order : InOrder e.entries (line t)

-- the order of choosing is the only one
pub in_order_lem : (e : Scanned) → Arrivals e → length e.entries ≡ 16 → InOrder e.entries (order_of e.entries)
in_order_lem e a l = order_from_lem (length e.entries) e.entries (apart e a) (sum-most (λ (x : Entry). one (is_ready x)) (λ x. one-small (is_ready x)) e.entries)

pub line-order : (e : Scanned) (t : Table) → Alike e t → line t ≡ order_of e.entries
line-order e t a = one-order e.entries (line t) (order_of e.entries) a.order (in_order_lem e a.numbers a.size)

head-order : (n : ℕ) (es : List Entry) → head_of (order_from (suc n) es) ≡ chosen_no es
unfolding order_from
head-order n es = decide (chosen es).found (λ f. rw f refl) (λ f. rw f refl)

pub head-chosen : (e : Scanned) (t : Table) → Alike e t → head_of (line t) ≡ chosen_no e.entries
head-chosen e t a = ap head_of (line-order e t a) ∙ ap (λ (n : ℕ). head_of (order_from n e.entries)) a.size ∙ head-order 15 e.entries

-- ---- a departure
module _ (es : List Entry) (x : Task) (u : is_ready (entry x 0) ≡ false) where
  pub tail-order : (r : List TaskNo) → InOrder es r → InOrder (put_entry es (head_of r).0 (entry x 0)) (tail r)
  unfolding put_entry
  tail-order [] o = o
  tail-order (c ∷ r) o =
      let rdy : IsReady es c.0 = one_true _ (omega (arith, o.exact c.0, head_in c r)) in
      let has : Has es c.0 = ready-has es c.0 rdy in
      let lone : times_in c.0 r ≡ 0 = omega (arith, o.exact c.0, head_in c r, one-small (is_ready (entry_at es c.0))) in
      let out : (j : ℕ) → 0 < times_in j r → eqb j c.0 ≡ false = λ j g. decide (eqb j c.0) (λ e. absurd (omega (arith, lone, ap (λ (n : ℕ). times_in n r) (eqb-true j c.0 e)))) (λ e. e) in
      record {
        exact = λ k. decide (eqb k c.0)
            (λ e. ap (λ (n : ℕ). times_in n r) (eqb-true k c.0 e) ∙ lone ∙ sym (ap (λ (y : Entry). one (is_ready y)) (ap (entry_at (put_entry es c.0 (entry x 0))) (eqb-true k c.0 e) ∙ at_same es c.0 (entry x 0) has) ∙ ap one u))
            (λ e. sym (other_in k c r e) ∙ o.exact k ∙ sym (ap (λ (y : Entry). one (is_ready y)) (at_other es c.0 k (entry x 0) e)));
        sorted = sorted-same es (put_entry es c.0 (entry x 0)) r (λ k g. sym (at_other es c.0 k (entry x 0) (out k g))) o.sorted.1;
      }

  pub head-has : (r : List TaskNo) → InOrder es r → 0 < (head_of r).0 → Has es (head_of r).0
  head-has [] o h = absurd (omega arith)
  head-has (c ∷ r) o h = ready-has es c.0 (one_true _ (omega (arith, o.exact c.0, head_in c r)))
