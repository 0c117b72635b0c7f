-- Laws of a configuration's bytes: what the loops over its tasks come to.
use Prim.Native.Nat.{ℕ, zero, suc, ◌+◌, ◌-◌, ◌≤◌, ◌<◌}
use mathlib.Core.Path.{◌≡◌, refl, ap, sym, ◌∙◌}
use mathlib.Core.Bool.{Bool, true, false, cond}
use mathlib.Core.List.{List, [], ◌∷◌, ◌++◌, append_assoc, append-nil}
use native.Mathlib.Omega.{arith}
use borrow.Author.Tests.{eq-eqb, ne_eqb}
use lib.Dec.{eqb}
use lib.ListN.{length, get_or, set}
use Rattle.executive.specs.declared.Task.{Task}
use Rattle.executive.specs.declared.Table.{Table}
use Rattle.executive.specs.declared.Work.{Work}
use Rattle.executive.specs.declared.AwaitedMoment.TheVariants.{ForNothing}
use Rattle.executive.specs.Queue.{count}
use Rattle.executive.specs.Places.{nobody, never, no_task, task_at, put_at}
use Rattle.executive.specs.Plans.{asks, begins}
use Rattle.executive.specs.Lists.{pad}
use Rattle.executive.specs.Table.{ArraysInOrder, line, items, item_of, view, Join, enter_at, entered, enter_in_flight, enter_all_in_flight}
use Rattle.executive.specs.Configuration.{place_in, own_in, mark_in, tasks_from, with_tasks, blank_rest, dormant_at, sleepers, marked_start, starters}
use Rattle.executive.proofs.Lists.Pad.{pad-more, length-pad, line-pad}
use Rattle.executive.proofs.queue.Law.{insert-count, items-enter}
use Rattle.executive.proofs.Plans.Moves.{items_put}
use Rattle.executive.proofs.queue.InFlight.{admits_append}

-- ---- the 41 counted: n were met, and the next one stands at the place of task n + 1
module _ (s : List ℕ) (n : ℕ) where
  abbrev next : ℕ
  next = get_or s (place_in (n + 1)) 0

  abbrev left : ℕ → ℕ
  left m = tasks_from s (16 - m) (m + 1)

  pub tasks-turn : n < 16 → next ≡ 0x41 → n + left n ≡ n + 1 + left (n + 1)
  unfolding tasks_from
  tasks-turn h e =
      let z : 16 - n ≡ suc (16 - (n + 1)) = omega arith in
      let y : n + 1 + 1 ≡ suc (n + 1) = omega arith in
      rw (z, eq-eqb next 0x41 e, y) (omega arith)

  pub tasks-stop : n < 16 → (next ≡ 0x41 → ⊥) → n + left n ≡ n
  unfolding tasks_from
  tasks-stop h e =
      let z : 16 - n ≡ suc (16 - (n + 1)) = omega arith in
      rw (z, ne_eqb next 0x41 e) (omega arith)

  pub tasks-end : 16 ≤ n → n + left n ≡ n
  unfolding tasks_from
  tasks-end h = let z : 16 - n ≡ 0 = omega arith in rw z (omega arith)

-- ---- one task more
module _ (s : List ℕ) where
  pub length-sleepers : (n k : ℕ) → length (sleepers s n k) ≡ n
  unfolding sleepers
  length-sleepers zero k = refl
  length-sleepers (suc n) k = ap suc (length-sleepers n (suc k))

  sleepers-more : (n k : ℕ) → sleepers s (suc n) k ≡ sleepers s n k ++ (dormant_at (own_in s (k + n)) ∷ [])
  unfolding sleepers
  sleepers-more zero k = let z : k + 0 ≡ k = omega arith in rw z refl
  sleepers-more (suc n) k =
      let z : k + suc n ≡ suc k + n = omega arith in
      rw z (ap (λ (l : List Task). dormant_at (own_in s k) ∷ l) (sleepers-more n (suc k)))

  pub dormant-more : (n : ℕ) → n < 16
      → set (pad 16 no_task (sleepers s n 1)) n (dormant_at (own_in s (n + 1))) ≡ pad 16 no_task (sleepers s (n + 1) 1)
  dormant-more n h =
      let l : length (sleepers s n 1) ≡ n = length-sleepers n 1 in
      let y : n + 1 ≡ 1 + n = omega arith in
      let z : n + 1 ≡ suc n = omega arith in
      sym (ap (λ (m : ℕ). set (pad 16 no_task (sleepers s n 1)) m (dormant_at (own_in s (n + 1)))) l)
      ∙ pad-more no_task 16 (sleepers s n 1) (dormant_at (own_in s (n + 1))) (omega arith)
      ∙ ap (λ (m : ℕ). pad 16 no_task (sleepers s n 1 ++ (dormant_at (own_in s m) ∷ []))) y
      ∙ ap (λ (l : List Task). pad 16 no_task l) (sym (sleepers-more n 1) ∙ ap (λ (m : ℕ). sleepers s m 1) (sym z))

  starters-more : (n k : ℕ) → starters s (suc n) k ≡ starters s n k ++ marked_start s (k + n)
  unfolding starters
  starters-more zero k = let z : k + 0 ≡ k = omega arith in rw z (append-nil (marked_start s k))
  starters-more (suc n) k =
      let z : k + suc n ≡ suc k + n = omega arith in
      rw z (ap (λ (l : List Join). marked_start s k ++ l) (starters-more n (suc k)) ∙ sym (append_assoc (marked_start s k) (starters s n (suc k)) (marked_start s (suc k + n))))

  pub marked-short : (k : ℕ) → length (marked_start s k) ≤ 1
  unfolding marked_start
  marked-short k = go (eqb (mark_in s k) 1)
    where
      go : (b : Bool) → length (cond b (begins (record { 0 = k }) (asks nobody ForNothing (record { 0 = k }) (own_in s k) 0) never ∷ []) []) ≤ 1
      go true = omega arith
      go false = omega arith

  pub start-more : (n : ℕ) (w : Work) → enter_all_in_flight (marked_start s (n + 1)) (enter_all_in_flight (starters s n 1) w) ≡ enter_all_in_flight (starters s (n + 1) 1) w
  start-more n w =
      let y : n + 1 ≡ 1 + n = omega arith in
      let z : n + 1 ≡ suc n = omega arith in
      ap (λ (m : ℕ). enter_all_in_flight (marked_start s m) (enter_all_in_flight (starters s n 1) w)) y
      ∙ sym (admits_append (starters s n 1) (marked_start s (1 + n)) w)
      ∙ ap (λ (l : List Join). enter_all_in_flight l w) (sym (starters-more n 1) ∙ ap (λ (m : ℕ). starters s m 1) (sym z))

-- ---- who is not ready yet: nobody is at first, and a start lets in no other
pub nobody_in : (t : Table) → t.ready ≡ 0 → (j : ℕ) → count j (view t) ≡ 0
unfolding items count
nobody_in t z j = rw z refl

pub start-vacant : (s : List ℕ) (k : ℕ) (w : Work) (j : ℕ) → k < j → count j (view w.table) ≡ 0 → count k (view w.table) ≡ 0
    → count j (view (enter_all_in_flight (marked_start s k) w).table) ≡ 0
unfolding marked_start enter_all_in_flight enter_in_flight entered
start-vacant s k w j h a b = go (eqb (mark_in s k) 1)
  where
    q : Join
    q = begins (record { 0 = k }) (asks nobody ForNothing (record { 0 = k }) (own_in s k) 0) never

    t : Table
    t = w.table

    ts : List Task
    ts = put_at t.tasks k (q.change (task_at t.tasks k))

    go : (m : Bool) → count j (view (enter_all_in_flight (cond m (q ∷ []) []) w).table) ≡ 0
    go true =
        rw (line-pad nobody 16 (enter_at ts q.who (line t)), items-enter ts q.who (line t), insert-count (item_of ts q.who) (items ts (line t)) j, ne_eqb j k (λ z. absurd (omega arith)), items_put t.tasks k (q.change (task_at t.tasks k)) (line t) b)
        (omega (arith, a))
    go false = a

-- ---- the table before the starts
pub dormant-fit : (s : List ℕ) (n g : ℕ) → n ≤ 16 → ArraysInOrder (with_tasks (pad 16 no_task (sleepers s n 1)) (blank_rest n g))
unfolding pad
dormant-fit s n g h = record {
  all = let l : length (sleepers s n 1) ≡ n = length-sleepers s n 1 in length-pad no_task 16 (sleepers s n 1) (omega arith);
  few = omega arith;
  tidy = refl;
  neat = record { room = omega arith; clear = refl };
}
