-- Sets of tasks as bits: no bit twice, and the set is that of those who pass a test, is each of them once and no other. The
-- turns of the loops that make the sets.
use Prim.Native.Nat.{ℕ, zero, suc, ◌+◌, ◌*◌, ◌^◌, ◌≤◌, ◌<◌}
use mathlib.Core.Path.{◌≡◌, refl, sym, ap, ◌∙◌}
use mathlib.Core.Bool.{Bool, true, false, not, cond, ◌||◌}
use mathlib.Core.List.{List, []}
use native.Mathlib.Omega.{arith}
use native.Mathlib.Numerals.{add-one}
use borrow.Author.Tests.{eqb-true, eqb-false, eq-eqb, ne_eqb, ltb-true, ltb-false}
use lib.Dec.{eqb, ltb}
use lib.Pow.{pow-lt, pow_pos, pow_mono}
use lib.Bits.{bit_and, bit_or, or_zero_l, or_lt}
use lib.ListN.{length, take, drop, get_or, set, replicate, take-append-drop, length-set, length-replicate, get_or-replicate}
use lib.Seq.{length-take-le, get_or-take, get_or-set_same, get_or-set_other, take-suc, take_all, drop-cons}
use Rattle.records.specs.declared.TaskNo.{TaskNo}
use Rattle.executive.specs.declared.State.{State}
use Rattle.executive.specs.declared.Task.{Task}
use Rattle.executive.specs.Lists.{one, sum_of, ◌and◌, up_to}
use Rattle.executive.specs.Places.{nobody, no_task, task_at, entry_place}
use Rattle.executive.specs.Table.{items, level_bit, levels_of}
use Rattle.executive.specs.States.{is_of}
use Rattle.executive.specs.Flags.{is_set}
use Rattle.executive.specs.Check.{falls, stands_in, exact_at}
use Rattle.executive.proofs.Assured.{one-le, all-not, all-get, all_make, false_not_true, and_false_left, and_false_right, sum-append, sum-snoc, set-none, set-or, set_same, set-only, set-within, same_bits, same, falls-turn, falls-off, falls-over, falls-end, word_on, word_end}
use Rattle.image.specs.Image.{line_from, load_of}
use Rattle.image.specs.Marks.{stood, passed, Marked, Sets, Kinds, Walks}
use Rattle.image.proofs.Alike.{decide}
use Rattle.image.proofs.Loaded.{tasks-size, line-size, placed-there, level-there, kind-there}

-- ---- one bit
pub bit-other : (k j : ℕ) → (j ≡ k → ⊥) → is_set (2 ^ k) j ≡ false
bit-other k j n = decide (is_set (2 ^ k) j) (λ h. absurd (n (sym (set-only k j h)))) (λ h. h)

or-none : (a : Bool) → (a || false) ≡ a
or-none true = refl
or-none false = refl

-- a bit more in a set: of itself, of another
set-this : (w k : ℕ) → is_set (bit_or w (2 ^ k)) k ≡ true
set-this w k = set-or k w (2 ^ k) ∙ ap (λ (b : Bool). is_set w k || b) (set_same k) ∙ yes (is_set w k)
  where
    yes : (a : Bool) → (a || true) ≡ true
    yes true = refl
    yes false = refl

set_that : (w k j : ℕ) → (j ≡ k → ⊥) → is_set (bit_or w (2 ^ k)) j ≡ is_set w j
set_that w k j n = set-or j w (2 ^ k) ∙ ap (λ (b : Bool). is_set w j || b) (bit-other k j n) ∙ or-none (is_set w j)

-- ---- the sets: none, and one task more
pub marks-none : (n : ℕ) (c : ℕ → ℕ) → ((j : ℕ) → c j ≡ 0) → Marked n 0 c
marks-none n c h = record { low = pow_pos n; told = λ j l. h j ∙ sym (ap one (set-none j)) }

pub marks-first : (c : ℕ → ℕ) → Marked 0 0 c
marks-first c = record { low = pow_pos 0; told = λ j h. absurd (omega arith) }

-- task k + 1 counts once more, and it did not yet; m is its number
pub marks-more : (n w k m : ℕ) (c d : ℕ → ℕ) → Marked n w c → k < n → m ≡ suc k → is_set w k ≡ false → ((j : ℕ) → d j ≡ c j + one (eqb (suc j) m)) → Marked n (bit_or w (2 ^ k)) d
marks-more n w k m c d t l e f h = record { low = or_lt n w (2 ^ k) t.low (pow-lt {j = n} l); told = λ j g. at j g (eqb j k) refl }
  where
    at : (j : ℕ) → j < n → (b : Bool) → eqb j k ≡ b → d j ≡ one (is_set (bit_or w (2 ^ k)) j)
    at j g true q =
        let z : j ≡ k = eqb-true j k q in
        let y : c j ≡ 0 = t.told j g ∙ ap one (ap (is_set w) z ∙ f) in
        let x : one (eqb (suc j) m) ≡ 1 = ap one (eq-eqb (suc j) m (omega arith)) in
        let v : one (is_set (bit_or w (2 ^ k)) j) ≡ 1 = ap one (ap (is_set (bit_or w (2 ^ k))) z ∙ set-this w k) in
        omega (arith, h j)
    at j g false q =
        let z : j ≡ k → ⊥ = eqb-false j k q in
        let x : one (eqb (suc j) m) ≡ 0 = ap one (ne_eqb (suc j) m (λ p. z (omega arith))) in
        let v : one (is_set (bit_or w (2 ^ k)) j) ≡ one (is_set w j) = ap one (set_that w k j z) in
        omega (arith, h j, t.told j g)

-- the set of those of k tasks, and whether the next one is among them
pub marks-next : (k w : ℕ) (c : ℕ → ℕ) (b : Bool) → Marked k w c → c k ≡ one b → Marked (k + 1) (cond b (bit_or w (2 ^ k)) w) c
marks-next k w c b t e = go b e
  where
    up : 2 ^ k < 2 ^ (k + 1)
    up = pow-lt {i = k} {j = k + 1} (omega arith)

    off : is_set w k ≡ false
    off = decide (is_set w k) (λ h. absurd (omega (arith, set-within k w k t.low h))) (λ h. h)

    go : (b : Bool) → c k ≡ one b → Marked (k + 1) (cond b (bit_or w (2 ^ k)) w) c
    go true e =
        record {
          low = or_lt (k + 1) w (2 ^ k) (omega (arith, up, t.low)) up;
          told =
              λ j g.
              decide (eqb j k)
              (λ q. let z = eqb-true j k q in ap c z ∙ e ∙ sym (ap one (ap (is_set (bit_or w (2 ^ k))) z ∙ set-this w k)))
              (λ q. let z = eqb-false j k q in t.told j (omega (arith, z)) ∙ sym (ap one (set_that w k j z)));
        }
    go false e =
        record {
          low = omega (arith, up, t.low);
          told =
              λ j g.
              decide (eqb j k)
              (λ q. let z = eqb-true j k q in ap c z ∙ e ∙ sym (ap one (ap (is_set w) z ∙ off)))
              (λ q. let z = eqb-false j k q in t.told j (omega (arith, z)));
        }

-- the same set where nobody of some more tasks is among them
pub marks-on : (a b w : ℕ) (c : ℕ → ℕ) → a ≤ b → Marked a w c → ((j : ℕ) → a ≤ j → j < b → c j ≡ 0) → Marked b w c
marks-on a b w c h t z =
    record {
      low = omega (arith, t.low, pow_mono {i = a} {j = b} h);
      told =
          λ j g.
          decide (ltb j a)
          (λ e. t.told j (ltb-true j a e))
          (λ e. let l = ltb-false j a e in z j l g ∙ sym (ap one (decide (is_set w j) (λ q. absurd (omega (arith, set-within a w j t.low q))) (λ q. q))));
    }

pub passed-at : (f : State → Bool) (ts : List Task) (k : ℕ) (b : Bool) → b ≡ f (get_or ts k no_task).state → passed f ts k ≡ one b
unfolding task_at
passed-at f ts k b e = ap one (sym e)

-- ---- the sets of those who pass each of m tests: of no tasks yet
pub sets_none : (m : ℕ) (f : ℕ → State → Bool) (ts : List Task) → Sets m 0 (replicate m 0) f ts
sets_none m f ts = record { sized = length-replicate m 0; each = λ j h. rw (get_or-replicate {A = ℕ} m j 0 0 h) (marks-first (passed (f j) ts)) }

-- one task more, who passes the test a and no other
module _ (m k : ℕ) (ws : List ℕ) (f : ℕ → State → Bool) (ts : List Task) (w : Sets m k ws f ts) (a bit : ℕ) (l : a < m) (b : bit ≡ 2 ^ k)
    (q : (j : ℕ) → eqb j a ≡ f j (get_or ts k no_task).state) where
  abbrev grown : List ℕ
  grown = set ws a (bit_or (get_or ws a 0) bit)

  next-set : (j : ℕ) → j < m → Marked (k + 1) (cond (eqb j a) (bit_or (get_or ws j 0) (2 ^ k)) (get_or ws j 0)) (passed (f j) ts)
  next-set j h = marks-next k (get_or ws j 0) (passed (f j) ts) (eqb j a) (w.each j h) (passed-at (f j) ts k (eqb j a) (q j))

  this-set : (j : ℕ) → j < m → eqb j a ≡ true → Marked (k + 1) (get_or grown j 0) (passed (f j) ts)
  this-set j h e =
      let z : j ≡ a = eqb-true j a e in
      let p : get_or grown j 0 ≡ bit_or (get_or ws j 0) (2 ^ k) =
      ap (λ (x : ℕ). get_or grown x 0) z
      ∙ get_or-set_same ws a (bit_or (get_or ws a 0) bit) 0 (omega (arith, l, w.sized))
      ∙ ap (bit_or (get_or ws a 0)) b
      ∙ ap (λ (x : ℕ). bit_or (get_or ws x 0) (2 ^ k)) (sym z) in
      rw p (rw e at (next-set j h))

  that_set : (j : ℕ) → j < m → eqb j a ≡ false → Marked (k + 1) (get_or grown j 0) (passed (f j) ts)
  that_set j h e = rw (get_or-set_other ws a j (bit_or (get_or ws a 0) bit) 0 (eqb-false j a e)) (rw e at (next-set j h))

  pub sets_one : Sets m (k + 1) (set ws a (bit_or (get_or ws a 0) bit)) f ts
  sets_one = record { sized = length-set ws a (bit_or (get_or ws a 0) bit) ∙ w.sized; each = λ j h. decide (eqb j a) (this-set j h) (that_set j h) }

-- of the kinds: that of the i-th entry is a
pub kinds-one : (s : List ℕ) (k : ℕ) → k < 16 → (ws : List ℕ) → Kinds k ws (load_of s).tasks → (bit : ℕ) → bit ≡ 2 ^ k → get_or s (k * 26 + 1) 0 ≤ 9
    → Kinds (k + 1) (set ws (get_or s (k * 26 + 1) 0) (bit_or (get_or ws (get_or s (k * 26 + 1) 0) 0) bit)) (load_of s).tasks
kinds-one s k h ws w bit b l =
    sets_one 10 k ws is_of (load_of s).tasks w (get_or s (k * 26 + 1) 0) bit (omega arith) b
    (λ j. ap (eqb j) (kind-there s k h (get_or s (k * 26 + 1) 0) refl l))

-- ---- the law: the two sets are one exactly where each task stands in the line as often as its state says
pub one_same : (a b : Bool) → one a ≡ one b → a ≡ b
one_same true true e = refl
one_same true false e = absurd (omega arith)
one_same false true e = absurd (omega arith)
one_same false false e = refl

pub same-marks : (f : State → Bool) (ts : List Task) (xs : List TaskNo) (n w v : ℕ) → Marked n w (stood xs) → Marked n v (passed f ts) → eqb w v ≡ up_to (exact_at f ts xs) n
unfolding exact_at
same-marks f ts xs n w v a b = same (eqb w v) (up_to (exact_at f ts xs) n) there back
  where
    at : w ≡ v → (k : ℕ) → 0 < k → k ≤ n → exact_at f ts xs k ≡ true
    at e zero g h = absurd (omega arith)
    at e (suc j) g h = eq-eqb (stands_in (suc j) xs) (one (f (task_at ts (suc j)).state)) (a.told j h ∙ ap (λ (x : ℕ). one (is_set x j)) e ∙ sym (b.told j h))

    there : eqb w v ≡ true → up_to (exact_at f ts xs) n ≡ true
    there e = all_make (exact_at f ts xs) n (at (eqb-true w v e))

    bits : up_to (exact_at f ts xs) n ≡ true → (p : ℕ) → p < n → is_set w p ≡ is_set v p
    bits e p h = one_same (is_set w p) (is_set v p) (sym (a.told p h) ∙ eqb-true (stands_in (suc p) xs) (one (f (task_at ts (suc p)).state)) (all-get (exact_at f ts xs) n (suc p) e (omega arith) h) ∙ b.told p h)

    back : up_to (exact_at f ts xs) n ≡ true → eqb w v ≡ true
    back e =
        eq-eqb w v
        (same_bits n w v a.low b.low
        (λ p. (λ h. sym (bits e p (set-within n w p a.low h)) ∙ h, λ h. bits e p (set-within n v p b.low h) ∙ h)))

-- ---- the number of a task whose place is one of sixteen
pub place-number : (m k : ℕ) → k ≡ entry_place m → k < 16 → m ≡ suc k
unfolding entry_place
place-number zero k e h = absurd (omega arith)
place-number (suc i) k e h = go (ltb i 16) refl e
  where
    go : (b : Bool) → ltb i 16 ≡ b → k ≡ cond b i 16 → suc i ≡ suc k
    go true l e = omega arith
    go false l e = absurd (omega arith)

-- ---- a walk over the line xs, from its first place to its i-th
module _ (xs : List TaskNo) (i : ℕ) (h : i < length xs) where
  pub stood-more : (j : ℕ) → stood (take (i + 1) xs) j ≡ stood (take i xs) j + one (eqb (suc j) (get_or xs i nobody).0)
  stood-more j =
      ap (λ (n : ℕ). stood (take n xs) j) (add-one i)
      ∙ ap (λ (ys : List TaskNo). stood ys j) (take-suc xs i nobody h)
      ∙ sum-snoc (λ (x : TaskNo). one (eqb (suc j) x.0)) (take i xs) (get_or xs i nobody)

  stood-both : (j : ℕ) → (get_or xs i nobody).0 ≡ suc j → stood (take i xs) j + 1 ≤ stood xs j
  unfolding sum_of
  stood-both j e =
      let f : TaskNo → ℕ = λ (x : TaskNo). one (eqb (suc j) x.0) in
      let a : stood xs j ≡ stood (take i xs) j + sum_of f (drop i xs) =
      ap (λ (ys : List TaskNo). stood ys j) (sym (take-append-drop i xs)) ∙ sum-append f (take i xs) (drop i xs) in
      let b : sum_of f (drop i xs) ≡ one (eqb (suc j) (get_or xs i nobody).0) + sum_of f (drop (suc i) xs) = ap (sum_of f) (drop-cons xs i nobody h) in
      let d : one (eqb (suc j) (get_or xs i nobody).0) ≡ 1 = ap one (eq-eqb (suc j) (get_or xs i nobody).0 (sym e)) in
      omega arith

  -- one who stands there already
  pub stood-twice : (f : State → Bool) (ts : List Task) (n w k : ℕ) → Marked n w (stood (take i xs)) → k < n → (get_or xs i nobody).0 ≡ suc k → is_set w k ≡ true → up_to (exact_at f ts xs) n ≡ false
  unfolding exact_at
  stood-twice f ts n w k m l e t =
      let z : suc k ≡ k + 1 = sym (add-one k) in
      let a : stood (take i xs) k ≡ 1 = m.told k l ∙ ap one t in
      let b : eqb (stands_in (suc k) xs) (one (f (task_at ts (suc k)).state)) ≡ false =
      ne_eqb (stands_in (suc k) xs) (one (f (task_at ts (suc k)).state)) (λ q. omega (arith, stood-both k e, one-le (f (task_at ts (suc k)).state))) in
      all-not (exact_at f ts xs) n k l (rw z at b)

-- what is so on the way over the first r places of the line q of n tasks
pub record Walking (ts : List Task) (q : List TaskNo) (r n i p seen word : ℕ) : Type 0 where
  pub within : i ≤ r
  pub falling : falls ts n p (drop i (take r q)) ≡ falls ts n 15 (take r q)
  pub marked : Marked n seen (stood (take i (take r q)))
  pub lit : levels_of (items ts (take r q)) ≡ bit_or word (levels_of (items ts (drop i (take r q))))

pub walk_start : (ts : List Task) (q : List TaskNo) (r n : ℕ) → Walking ts q r n 0 15 0 0
unfolding sum_of
walk_start ts q r n = record { within = omega arith; falling = refl; marked = marks-none n (stood []) (λ j. refl); lit = sym (or_zero_l (levels_of (items ts (take r q)))) }

fails : (ts : List Task) (n : ℕ) (xs : List TaskNo) (x y : ℕ) → ((f : State → Bool) → (falls ts n 15 xs and up_to (exact_at f ts xs) n) ≡ false) → Walks ts n xs false x y
fails ts n xs x y h = record { good = λ e. false_not_true e; bad = λ e. h }

-- the line from place `at` of any bytes
module _ (s : List ℕ) (at r n : ℕ) (hr : r ≤ 16) (hn : n ≤ 16) (i p seen word : ℕ) (w : Walking (load_of s).tasks (line_from s at) r n i p seen word) where
  abbrev ts : List Task
  ts = (load_of s).tasks

  abbrev q : List TaskNo
  q = line_from s at

  fit : r ≤ length (line_from s at)
  fit = omega (arith, line-size s at)

  pub line-end : r ≤ i → Walks (load_of s).tasks n (take r (line_from s at)) true seen word
  line-end h =
      let m : length (take r q) ≡ r = length-take-le r q fit in
      let z : take i (take r q) ≡ take r q = take_all i (take r q) (omega arith) in
      record {
        good = λ e. (sym w.falling ∙ falls-end ts n q r fit i p h, rw z at w.marked, word_end ts n q r fit i p word h w.lit);
        bad = λ e. false_not_true (sym e);
      }

  -- the next in line, k being its place
  module _ (h : i < r) (k : ℕ) (e : k ≡ entry_place (get_or s (at + i) 0)) where
    placed : k ≡ entry_place (get_or q i nobody).0
    placed = placed-there s i at k (omega arith) e

    pub line-off : (x y : ℕ) → n ≤ k → Walks (load_of s).tasks n (take r (line_from s at)) false x y
    line-off x y l = fails ts n (take r q) x y (λ f. sym (and_false_left _ _ (sym w.falling ∙ falls-off ts n q r fit i p h hn (tasks-size s) k placed l)))

    -- one of the tasks: its priority, and its bit
    module _ (l : k < n) where
      number : (get_or (take r q) i nobody).0 ≡ suc k
      number = ap (λ (x : TaskNo). x.0) (get_or-take r q i nobody h) ∙ place-number (get_or q i nobody).0 k placed (omega arith)

      long : i < length (take r q)
      long = omega (arith, length-take-le r q fit)

      level : get_or s (k * 26 + 14) 0 ≡ (get_or ts k no_task).priority
      level = level-there s k (omega arith) (k * 26 + 14) refl

      pub line-over : (x y : ℕ) → p < get_or s (k * 26 + 14) 0 → Walks (load_of s).tasks n (take r (line_from s at)) false x y
      line-over x y o =
          fails ts n (take r q) x y (λ f. sym (and_false_left _ _ (sym w.falling ∙ falls-over ts n q r fit i p h hn (tasks-size s) k placed l (omega (arith, o, level)))))

      module _ (bit : ℕ) (b : bit ≡ 2 ^ k) where
        pub line-twice : (x y : ℕ) → (bit_and seen bit ≡ 0 → ⊥) → Walks (load_of s).tasks n (take r (line_from s at)) false x y
        unfolding is_set
        line-twice x y g =
            let z : is_set seen k ≡ true = ap not (ne_eqb (bit_and seen (2 ^ k)) 0 (λ v. g (ap (bit_and seen) b ∙ v))) in
            fails ts n (take r q) x y (λ f. sym (and_false_right (falls ts n 15 (take r q)) _ (sym (stood-twice (take r q) i long f ts n seen k w.marked l number z))))

        pub line-turn : (y : ℕ) → y ≡ level_bit (get_or s (k * 26 + 14) 0) → get_or s (k * 26 + 14) 0 ≤ p → bit_and seen bit ≡ 0
            → Walking (load_of s).tasks (line_from s at) r n (i + 1) (get_or s (k * 26 + 14) 0) (bit_or seen bit) (bit_or word y)
        unfolding is_set
        line-turn y v o g =
            let z : is_set seen k ≡ false = ap not (eq-eqb (bit_and seen (2 ^ k)) 0 (ap (bit_and seen) (sym b) ∙ g)) in
            let m = marks-more n seen k (get_or (take r q) i nobody).0 (stood (take i (take r q))) (stood (take (i + 1) (take r q))) w.marked l number z (stood-more (take r q) i long) in
            record {
              within = omega arith;
              falling =
                  ap (λ (x : ℕ). falls ts n x (drop (i + 1) (take r q))) level
                  ∙ falls-turn ts n q r fit i p h hn (tasks-size s) k placed l (omega (arith, o, level))
                  ∙ w.falling;
              marked = rw b m;
              lit = rw v (word_on ts n q r fit i p h hn (tasks-size s) k placed word (get_or s (k * 26 + 14) 0) level w.lit);
            }
