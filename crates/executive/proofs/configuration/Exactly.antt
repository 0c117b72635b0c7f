-- The test of a configuration's bytes passes exactly where they are one 40, 1 to 16 of 41, and 42.
use Prim.Native.Nat.{ℕ, zero, suc, ◌+◌, ◌-◌, ◌*◌, ◌≤◌, ◌<◌}
use mathlib.Core.Path.{◌≡◌, refl, sym, ap, ◌∙◌}
use mathlib.Core.Bool.{Bool, true, false, cond}
use mathlib.Core.List.{List, [], ◌∷◌}
use native.Mathlib.Omega.{arith}
use native.Mathlib.Nat.{le_of_suc-le-suc}
use borrow.Author.Tests.{le-leb, eq-eqb, eqb-true}
use lib.Dec.{eqb}
use lib.ListN.{length, get_or, drop, drop_of_length-le}
use lib.Seq.{drop-cons, get_or-drop, drop-drop}
use Rattle.executive.specs.Configuration.{granule_in, place_in, own_in, mark_in, tasks_from, tasks_in, configuration_in, task_right, is_configuration}
use Rattle.executive.specs.Promises.FreshLaw.{Entry, records_of, AllRight, Configuration}
use Rattle.executive.proofs.Lists.Loops.{all_make}
use Rattle.executive.proofs.configuration.Shape.{Configured, configured}

-- ---- from the test to the words: the tasks are read off the bytes
unfoldable pub entries_in : List ℕ → ℕ → ℕ → List Entry
entries_in s zero k = []
entries_in s (suc n) k = record { own = own_in s k; mark = mark_in s k } ∷ entries_in s n (suc k)

module _ (s : List ℕ) where
  length-entries : (n k : ℕ) → length (entries_in s n k) ≡ n
  unfolding entries_in
  length-entries zero k = refl
  length-entries (suc n) k = ap suc (length-entries n (suc k))

  -- each record that is counted is a 41
  counted : (n k i : ℕ) → i < tasks_from s n k → get_or s (place_in (k + i)) 0 ≡ 0x41
  unfolding tasks_from
  counted zero k i h = absurd (omega arith)
  counted (suc n) k i h = go (eqb (get_or s (place_in k) 0) 0x41) refl i h (counted n (suc k))
    where
      go : (b : Bool) → eqb (get_or s (place_in k) 0) 0x41 ≡ b → (i : ℕ) → i < cond b (suc (tasks_from s n (suc k))) 0
          → ((j : ℕ) → j < tasks_from s n (suc k) → get_or s (place_in (suc k + j)) 0 ≡ 0x41) → get_or s (place_in (k + i)) 0 ≡ 0x41
      go true e zero l ih = let z : k + 0 ≡ k = omega arith in rw z (eqb-true (get_or s (place_in k) 0) 0x41 e)
      go true e (suc j) l ih = let z : k + suc j ≡ suc k + j = omega arith in rw z (ih j (le_of_suc-le-suc l))
      go false e i l ih = absurd (omega arith)

  each-counted : (k : ℕ) → 0 < k → k ≤ tasks_in s → get_or s (place_in k) 0 ≡ 0x41
  unfolding tasks_in
  each-counted k h l = let z : k ≡ 1 + (k - 1) = omega arith in ap (λ (m : ℕ). get_or s (place_in m) 0) z ∙ counted 16 1 (k - 1) (omega arith)

  module _ (t : Configured s) (all : (k : ℕ) → 0 < k → k ≤ tasks_in s → get_or s (place_in k) 0 ≡ 0x41) where
    right-entries : (n k : ℕ) → 0 < k → k + n ≡ tasks_in s + 1 → AllRight (entries_in s n k)
    unfolding entries_in
    right-entries zero k h e = tt
    right-entries (suc n) k h e = (t.own k h (omega arith), t.mark k h (omega arith), right-entries n (suc k) (omega arith) (omega arith))

    from-task : (n k : ℕ) → 0 < k → k + n ≡ tasks_in s + 1 → drop (place_in k) s ≡ records_of (entries_in s n k)
    unfolding entries_in records_of
    from-task zero k h e =
        let z : k ≡ tasks_in s + 1 = omega arith in
        rw (drop-cons s (place_in k) 0 (omega (arith, t.shape.whole)), ap (λ (m : ℕ). get_or s (place_in m) 0) z ∙ t.shape.last, drop_of_length-le s {i = suc (place_in k)} (omega (arith, t.shape.whole))) refl
    from-task (suc n) k h e =
        let w = t.shape.whole in
        let a : suc (place_in k) ≡ place_in k + 1 = omega arith in
        let b : suc (place_in k + 1) ≡ place_in k + 2 = omega arith in
        let d : suc (place_in k + 2) ≡ place_in (suc k) = omega arith in
        rw (
          drop-cons s (place_in k) 0 (omega arith),
          all k h (omega arith),
          a,
          drop-cons s (place_in k + 1) 0 (omega arith),
          b,
          drop-cons s (place_in k + 2) 0 (omega arith),
          d,
          from-task n (suc k) (omega arith) (omega arith),
        ) refl

    from_start : s ≡ 0x40 ∷ granule_in s ∷ records_of (entries_in s (tasks_in s) 1)
    from_start =
        let w = t.shape.whole in
        drop-cons s 0 0 (omega arith) ∙ rw (t.shape.first, drop-cons s 1 0 (omega arith), from-task (tasks_in s) 1 (omega arith) (omega arith)) refl

    words : Configuration s
    words = record {
      granule = granule_in s;
      tasks = entries_in s (tasks_in s) 1;
      bytes = from_start;
      some = rw (length-entries (tasks_in s) 1) t.some;
      few = rw (length-entries (tasks_in s) 1) t.few;
      time = t.granule;
      right = right-entries (tasks_in s) 1 (omega arith) (omega arith);
    }

pub spelled : (s : List ℕ) → is_configuration s ≡ true → Configuration s
spelled s e = words s (configured s e) (each-counted s)

-- ---- from the words to the test: what stands where
length-records : (es : List Entry) → length (records_of es) ≡ 3 * length es + 1
unfolding records_of
length-records [] = refl
length-records (e ∷ es) = omega (arith, length-records es)

-- the records of a list of tasks, read at place j of the record of task i + 1
record_at : (es : List Entry) (i : ℕ) → i < length es → AllRight es
    → (get_or (records_of es) (3 * i) 0 ≡ 0x41) × (get_or (records_of es) (3 * i + 1) 0 ≤ 15) × (get_or (records_of es) (3 * i + 2) 0 ≤ 1)
unfolding records_of
record_at [] i h r = absurd (omega arith)
record_at (e ∷ es) zero h r = (refl, r.0, r.1)
record_at (e ∷ es) (suc i) h r =
    let x : 3 * suc i ≡ suc (suc (suc (3 * i))) = omega arith in
    let y : 3 * suc i + 1 ≡ suc (suc (suc (3 * i + 1))) = omega arith in
    let z : 3 * suc i + 2 ≡ suc (suc (suc (3 * i + 2))) = omega arith in
    rw (y, z, x) (record_at es i (le_of_suc-le-suc h) r.2)

record_end : (es : List Entry) → get_or (records_of es) (3 * length es) 0 ≡ 0x42
unfolding records_of
record_end [] = refl
record_end (e ∷ es) = let x : 3 * suc (length es) ≡ suc (suc (suc (3 * length es))) = omega arith in rw x (record_end es)

module _ (g : ℕ) (es : List Entry) (some : 1 ≤ length es) (few : length es ≤ 16) (time : 1 ≤ g) (right : AllRight es) where
  abbrev whole : List ℕ
  whole = 0x40 ∷ g ∷ records_of es

  task-at : (k : ℕ) → 0 < k → k ≤ length es → (get_or whole (place_in k) 0 ≡ 0x41) × (own_in whole k ≤ 15) × (mark_in whole k ≤ 1)
  task-at k h l =
      let x : place_in k ≡ suc (suc (3 * (k - 1))) = omega arith in
      let y : place_in k + 1 ≡ suc (suc (3 * (k - 1) + 1)) = omega arith in
      let z : place_in k + 2 ≡ suc (suc (3 * (k - 1) + 2)) = omega arith in
      rw (y, z, x) (record_at es (k - 1) (omega arith) right)

  end-at : (k : ℕ) → k ≡ length es + 1 → get_or whole (place_in k) 0 ≡ 0x42
  end-at k e = let z : place_in k ≡ suc (suc (3 * length es)) = omega arith in rw z (record_end es)

  count-from : (n k m : ℕ) → 0 < k → k + m ≡ length es + 1 → m ≤ n → tasks_from whole n k ≡ m
  unfolding tasks_from
  count-from zero k m h e l = omega arith
  count-from (suc n) k zero h e l = rw (end-at k (omega arith)) refl
  count-from (suc n) k (suc m) h e l = rw (task-at k h (omega arith)).0 (ap suc (count-from n (suc k) m (omega arith) (omega arith) (le_of_suc-le-suc l)))

  count-is : tasks_in whole ≡ length es
  unfolding tasks_in
  count-is = count-from 16 1 (length es) (omega arith) (omega arith) few

  length-is : configuration_in whole ≡ 3 * length es + 3
  unfolding configuration_in
  length-is = rw (count-is, end-at (length es + 1) refl) refl

  task-right : (k : ℕ) → 0 < k → k ≤ length es → task_right whole k ≡ true
  unfolding task_right
  task-right k h l = let r = task-at k h l in rw (le-leb (own_in whole k) 15 r.1) (le-leb (mark_in whole k) 1 r.2)

  test-is : is_configuration whole ≡ true
  unfolding is_configuration
  test-is =
      let l : length whole ≡ 3 * length es + 3 = omega (arith, length-records es) in
      rw (length-is, count-is, le-leb 1 (length es) some, eq-eqb (length whole) (3 * length es + 3) l, le-leb 1 g time) (all_make (task_right whole) (length es) task-right)

-- the tasks read off a configuration's bytes are those that it was spelled from
entries_from : (s : List ℕ) (es : List Entry) (k : ℕ) → 0 < k → drop (place_in k) s ≡ records_of es
    → entries_in s (length es) k ≡ es
unfolding entries_in records_of
entries_from s [] k h d = refl
entries_from s (e ∷ es) k h d =
    let own : own_in s k ≡ e.own = sym (get_or-drop (place_in k) s 1 0) ∙ ap (λ (u : List ℕ). get_or u 1 0) d in
    let mark : mark_in s k ≡ e.mark = sym (get_or-drop (place_in k) s 2 0) ∙ ap (λ (u : List ℕ). get_or u 2 0) d in
    let z : place_in k + 3 ≡ place_in (suc k) = omega arith in
    let next : drop (place_in (suc k)) s ≡ records_of es = ap (λ (n : ℕ). drop n s) (sym z) ∙ sym (drop-drop 3 (place_in k) s) ∙ ap (drop 3) d in
    rw (own, mark, entries_from s es (suc k) (omega arith) next) refl

pub entries-back : (s : List ℕ) (c : Configuration s)
    → (tasks_in s ≡ length c.tasks) × (granule_in s ≡ c.granule) × (entries_in s (tasks_in s) 1 ≡ c.tasks)
entries-back s c =
    let n : tasks_in s ≡ length c.tasks = rw c.bytes (count-is c.granule c.tasks c.some c.few c.time c.right) in
    (n, rw c.bytes refl, rw n (entries_from s c.tasks 1 (omega arith) (rw c.bytes refl)))

pub tested : (s : List ℕ) → Configuration s → is_configuration s ≡ true
tested s c = rw c.bytes (test-is c.granule c.tasks c.some c.few c.time c.right)
