-- Arrival numbers: that no two bear one, by counts and by tasks; and what departing, renumbering and entering keep.
use Prim.Native.Nat.{ℕ, zero, suc, ◌≤◌, ◌<◌, zero-le}
use mathlib.Core.Path.{◌≡◌, refl, sym, ap, subst, ◌∙◌}
use mathlib.Core.Bool.{Bool, true, false, cond}
use mathlib.Core.List.{List, [], ◌∷◌, map}
use native.Mathlib.Omega.{arith}
use borrow.Author.Tests.{ltb-true, ltb-false, lt-ltb, le-ltb, eqb-true, eq-eqb}
use lib.Dec.{ltb, eqb}
use lib.ListN.{length, get_or}
use Rattle.executive.specs.declared.Task.{Task}
use Rattle.executive.specs.Lists.{one, sum_of, ◌and◌}
use Rattle.scan.specs.declared.Entry.{Entry}
use Rattle.scan.specs.declared.Scanned.{Scanned}
use Rattle.scan.specs.Entries.{most_arrivals, entry, no_entry, task_of, tasks_in, entry_at, put_entry, is_ready, count_of, is_bearer, is_earlier}
use Rattle.scan.specs.Choosing.{IsReady, arrival_in, Distinct}
use Rattle.scan.specs.Moves.{renumbered_in, renumbered}
use Rattle.scan.specs.Sound.{Arrivals}
use Rattle.scan.proofs.Basics.{never, decide, one-small, eqb_self, eqb_swap, sum-zero, sum_lt, sum-most, map_at, map_same, map-twice}
use Rattle.scan.proofs.Places.{Has, at_same, at_other, put_length, ready-has, sum_put, sum-entry, sum-none}

abbrev bears : ℕ → Entry → ℕ
bears n x = one (eqb n x.arrival)

-- ---- distinct by counts is distinct by tasks
pub distinct : (es : List Entry) → ((k : ℕ) → IsReady es k → 0 < arrival_in es k) → ((n : ℕ) → 0 < n → count_of (is_bearer n) es ≤ 1) → Distinct es
distinct es s o i j p q e = decide (eqb i j) (λ z. eqb-true i j z) (λ z. absurd (both z))
  where
    both : eqb i j ≡ false → ⊥
    both z =
        let n : ℕ = arrival_in es i in
        let x = sum_put (bears n) es i no_entry (ready-has es i p) in
        let h : Has (put_entry es i no_entry) j = let g = ready-has es j q in (g.0, omega (arith, put_length es i no_entry, g.1)) in
        let y = sum-entry (bears n) (put_entry es i no_entry) j h in
        let a : bears n (entry_at es i) ≡ 1 = ap one (eqb_self n) in
        let b : bears n (entry_at (put_entry es i no_entry) j) ≡ 1 =
        ap (bears n) (at_other es i j no_entry (eqb_swap i j z)) ∙ ap one (eq-eqb n (arrival_in es j) e) in
        let c : bears n no_entry ≡ 0 = ap one (decide (eqb n 0) (λ t. absurd (omega (arith, s i p, eqb-true n 0 t))) (λ t. t)) in
        omega (arith, x, y, a, b, c, o n (s i p))

-- by tasks is by counts
module _ (n : ℕ) where
  count_none : (es : List Entry) → ((i : ℕ) → (get_or es i no_entry).arrival ≡ n → ⊥) → sum_of (bears n) es ≡ 0
  count_none es h = sum-zero (bears n) es no_entry (λ i. ap one (decide (eqb n (get_or es i no_entry).arrival) (λ e. absurd (h i (sym (eqb-true n _ e)))) (λ e. e)))

  pub count-once : (es : List Entry) → 0 < n → ((i j : ℕ) → (get_or es i no_entry).arrival ≡ n → (get_or es j no_entry).arrival ≡ n → i ≡ j) → sum_of (bears n) es ≤ 1
  unfolding sum_of
  count-once [] z h = zero-le
  count-once (x ∷ xs) z h = decide (eqb n x.arrival)
      (λ e. let r : sum_of (bears n) xs ≡ 0 = count_none xs (λ i g. absurd (omega (arith, h 0 (suc i) (sym (eqb-true n _ e)) g))) in rw e (omega arith))
      (λ e. let r = count-once xs z (λ i j p q. omega (arith, h (suc i) (suc j) p q)) in rw e (omega arith))

-- what holds of the entry that is put and of all others holds of each
pub by_place_lem : (P : Entry → Type 0) (es : List Entry) (k j : ℕ) (y : Entry) → Has es k → (j ≡ k → P y) → (eqb j k ≡ false → P (entry_at es j)) → P (entry_at (put_entry es k y) j)
by_place_lem P es k j y h p q = decide (eqb j k)
    (λ e. let z : j ≡ k = eqb-true j k e in subst P (sym (ap (entry_at (put_entry es k y)) z ∙ at_same es k y h)) (p z))
    (λ e. subst P (sym (at_other es k j y e)) (q e))

positive : (n : ℕ) → 0 < n → eqb n 0 ≡ false
positive n h = decide (eqb n 0) (λ t. absurd (omega (arith, eqb-true n 0 t))) (λ t. t)

module _ (e : Scanned) (a : Arrivals e) where
  abbrev es : List Entry
  es = e.entries

  pub apart : Distinct es
  apart = distinct es a.some a.once

  -- ---- a departure
  pub departed-numbers : (k : ℕ) (x : Task) → Has es k → is_ready (entry x 0) ≡ false
      → Arrivals (record { entries = put_entry es k (entry x 0); last = e.last; rest = e.rest })
  departed-numbers k x h u = record {
    last = a.last;
    some = λ j. by_place_lem (λ (y : Entry). is_ready y ≡ true → 0 < y.arrival) es k j (entry x 0) h (λ z r. never (sym u ∙ r)) (λ z. a.some j);
    given = λ j. by_place_lem (λ (y : Entry). y.arrival ≤ e.last) es k j (entry x 0) h (λ z. zero-le) (λ z. a.given j);
    once = λ n g. let s = sum_put (bears n) es k (entry x 0) h in omega (arith, s, ap one (positive n g), a.once n g);
    others = λ j. by_place_lem (λ (y : Entry). is_ready y ≡ false → y.arrival ≡ 0) es k j (entry x 0) h (λ z r. refl) (λ z. a.others j);
  }

  -- ---- one more enters
  pub entered-numbers : (k : ℕ) (x : Task) → Has es k → is_ready (entry_at es k) ≡ false → is_ready (entry x 0) ≡ true → e.last < most_arrivals
      → Arrivals (record { entries = put_entry es k (entry x (suc e.last)); last = suc e.last; rest = e.rest })
  entered-numbers k x h u r l = record {
    last = omega arith;
    some = λ j. by_place_lem (λ (y : Entry). is_ready y ≡ true → 0 < y.arrival) es k j (entry x (suc e.last)) h (λ z t. omega arith) (λ z. a.some j);
    given = λ j. by_place_lem (λ (y : Entry). y.arrival ≤ suc e.last) es k j (entry x (suc e.last)) h (λ z. omega arith) (λ z. omega (arith, a.given j));
    once = once;
    others = λ j. by_place_lem (λ (y : Entry). is_ready y ≡ false → y.arrival ≡ 0) es k j (entry x (suc e.last)) h (λ z t. never (sym t ∙ r)) (λ z. a.others j);
  }
    where
      once : (n : ℕ) → 0 < n → count_of (is_bearer n) (put_entry es k (entry x (suc e.last))) ≤ 1
      once n g =
          let s = sum_put (bears n) es k (entry x (suc e.last)) h in
          let o : bears n (entry_at es k) ≡ 0 = ap (λ (m : ℕ). one (eqb n m)) (a.others k u) ∙ ap one (positive n g) in
          decide (eqb n (suc e.last))
          (λ z. let y : n ≡ suc e.last = eqb-true n _ z in
          let w : sum_of (bears n) es ≡ 0 = sum-none (bears n) es (λ j. ap one (decide (eqb n (arrival_in es j)) (λ t. absurd (omega (arith, eqb-true n _ t, a.given j))) (λ t. t))) in
          omega (arith, s, o, w, ap one z))
          (λ z. omega (arith, s, o, ap one z, a.once n g))

  -- ---- a renumbering: each task's entry, its number by those before it
  abbrev pub rank : ℕ → ℕ
  rank n = suc (count_of (is_earlier n) es)

  pub renumbered-at : (k : ℕ) → entry_at (map (renumbered_in es) es) k ≡ renumbered_in es (entry_at es k)
  unfolding entry_at
  renumbered-at zero = refl
  renumbered-at (suc i) = map_at (renumbered_in es) es i no_entry

  ready-same : (x : Entry) → is_ready (renumbered_in es x) ≡ is_ready x
  ready-same x = decide (is_ready x) (λ r. rw r r) (λ r. rw r r)

  task-same : (x : Entry) → (renumbered_in es x).task ≡ x.task
  task-same x = decide (is_ready x) (λ r. rw r refl) (λ r. rw r refl)

  pub new-ready : (k : ℕ) → is_ready (entry_at (map (renumbered_in es) es) k) ≡ is_ready (entry_at es k)
  new-ready k = ap is_ready (renumbered-at k) ∙ ready-same (entry_at es k)

  pub new-task : (k : ℕ) → (entry_at (map (renumbered_in es) es) k).task ≡ (entry_at es k).task
  new-task k = ap task_of (renumbered-at k) ∙ task-same (entry_at es k)

  pub new-number : (k : ℕ) → IsReady es k → arrival_in (map (renumbered_in es) es) k ≡ rank (arrival_in es k)
  new-number k r = ap (λ (x : Entry). x.arrival) (renumbered-at k) ∙ ap (λ (b : Bool). (cond b (entry (entry_at es k).task (rank (arrival_in es k))) (entry_at es k)).arrival) r

  pub new-other : (k : ℕ) → is_ready (entry_at es k) ≡ false → arrival_in (map (renumbered_in es) es) k ≡ arrival_in es k
  new-other k r = ap (λ (x : Entry). x.arrival) (renumbered-at k) ∙ ap (λ (b : Bool). (cond b (entry (entry_at es k).task (rank (arrival_in es k))) (entry_at es k)).arrival) r

  pub tasks-stay : tasks_in (map (renumbered_in es) es) ≡ tasks_in es
  tasks-stay = map-twice (renumbered_in es) task_of es ∙ map_same (λ (x : Entry). (renumbered_in es x).task) task_of task-same es

-- those with a smaller number are fewer
module _ (es : List Entry) where
  abbrev under : ℕ → Entry → ℕ
  under n x = one (is_ready x and ltb x.arrival n)

  under-le : (m n : ℕ) → m ≤ n → (x : Entry) → under m x ≤ under n x
  under-le m n h x = go (is_ready x) (ltb x.arrival m) refl
    where
      go : (b c : Bool) → ltb x.arrival m ≡ c → one (b and c) ≤ one (b and ltb x.arrival n)
      go true true e = rw (lt-ltb x.arrival n (omega (arith, ltb-true x.arrival m e))) (omega arith)
      go true false e = zero-le
      go false c e = zero-le

  under-ready : (n : ℕ) (x : Entry) → under n x ≤ one (is_ready x)
  under-ready n x = go (is_ready x) (ltb x.arrival n)
    where
      go : (b c : Bool) → one (b and c) ≤ one b
      go true true = omega arith
      go true false = zero-le
      go false c = zero-le

  at_place : (k : ℕ) → Has es k → (f g : Entry → ℕ) → ((x : Entry) → f x ≤ g x) → f (entry_at es k) < g (entry_at es k) → sum_of f es < sum_of g es
  unfolding entry_at
  at_place zero h f g l z = absurd (omega (arith, h.0))
  at_place (suc i) h f g l z = sum_lt f g l es i no_entry (omega (arith, h.1)) z

  own-under : (k n : ℕ) → IsReady es k → under n (entry_at es k) ≡ one (ltb (arrival_in es k) n)
  own-under k n r = ap (λ (b : Bool). one (b and ltb (arrival_in es k) n)) r

  pub rank_lt : (k n : ℕ) → IsReady es k → arrival_in es k < n → count_of (is_earlier (arrival_in es k)) es < count_of (is_earlier n) es
  rank_lt k n r h = at_place k (ready-has es k r) (under (arrival_in es k)) (under n) (under-le _ _ (omega arith))
      (omega (arith, own-under k (arrival_in es k) r, own-under k n r, ap one (le-ltb (arrival_in es k) (arrival_in es k) (omega arith)), ap one (lt-ltb (arrival_in es k) n h)))

  pub rank_most : (k : ℕ) → IsReady es k → count_of (is_earlier (arrival_in es k)) es < count_of is_ready es
  rank_most k r = at_place k (ready-has es k r) (under (arrival_in es k)) (λ (x : Entry). one (is_ready x)) (under-ready _)
      (omega (arith, own-under k (arrival_in es k) r, ap one (le-ltb (arrival_in es k) (arrival_in es k) (omega arith)), ap one r))

module _ (e : Scanned) (a : Arrivals e) where
  abbrev fs : List Entry
  fs = map (renumbered_in e.entries) e.entries

  -- the order of two ready tasks is kept
  pub order-kept : (i j : ℕ) → IsReady e.entries i → IsReady e.entries j → arrival_in e.entries i < arrival_in e.entries j → arrival_in fs i < arrival_in fs j
  order-kept i j p q h = omega (arith, new-number e a i p, new-number e a j q, rank_lt e.entries i (arrival_in e.entries j) p h)

  pub renumbered-numbers : length e.entries ≡ 16 → Arrivals (renumbered e)
  unfolding renumbered entry_at
  renumbered-numbers l = record {
    last = omega (arith, most, l);
    some = λ k r. omega (arith, new-number e a k (ready k r));
    given = λ k. decide (is_ready (entry_at e.entries k))
        (λ r. omega (arith, new-number e a k r, rank_most e.entries k r))
        (λ r. omega (arith, new-other e a k r, a.others k r));
    once = λ n g. count-once n fs g (λ i j p q. omega (arith, same n g (suc i) (suc j) (at i ∙ p) (at j ∙ q)));
    others = λ k r. let u = sym (new-ready e a k) ∙ r in new-other e a k u ∙ a.others k u;
  }
    where
      most : count_of is_ready e.entries ≤ length e.entries
      most = sum-most (λ (x : Entry). one (is_ready x)) (λ x. one-small (is_ready x)) e.entries

      ready : (k : ℕ) → IsReady fs k → IsReady e.entries k
      ready k r = sym (new-ready e a k) ∙ r

      at : (i : ℕ) → arrival_in fs (suc i) ≡ (get_or fs i no_entry).arrival
      at i = refl

      bearer : (n k : ℕ) → 0 < n → arrival_in fs k ≡ n → IsReady e.entries k
      bearer n k g p = decide (is_ready (entry_at e.entries k)) (λ r. r) (λ r. absurd (omega (arith, new-other e a k r, a.others k r)))

      same : (n : ℕ) → 0 < n → (i j : ℕ) → arrival_in fs i ≡ n → arrival_in fs j ≡ n → i ≡ j
      same n g i j p q =
          let x = bearer n i g p in let y = bearer n j g q in
          decide (ltb (arrival_in e.entries i) (arrival_in e.entries j))
          (λ z. absurd (omega (arith, order-kept i j x y (ltb-true (arrival_in e.entries i) (arrival_in e.entries j) z))))
          (λ z. decide (ltb (arrival_in e.entries j) (arrival_in e.entries i))
          (λ w. absurd (omega (arith, order-kept j i y x (ltb-true (arrival_in e.entries j) (arrival_in e.entries i) w))))
          (λ w. apart e a i j x y (omega (arith, ltb-false (arrival_in e.entries i) (arrival_in e.entries j) z, ltb-false (arrival_in e.entries j) (arrival_in e.entries i) w))))
