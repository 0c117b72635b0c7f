-- The lines that are rebuilt: each holds exactly those whose state is of its kind, once each, in descending priority; and the
-- messages put in order one after the other.
use Prim.Native.Nat.{ℕ, zero, suc, ◌+◌, ◌≤◌, ◌<◌}
use mathlib.Core.Path.{◌≡◌, refl, sym, ap, ◌∙◌}
use mathlib.Core.Bool.{Bool, true, false, cond}
use mathlib.Core.List.{List, [], ◌∷◌, map}
use native.Mathlib.Omega.{arith}
use borrow.Author.Tests.{eqb-true, eqb-false}
use lib.Dec.{eqb, ltb}
use lib.ListN.{length, get_or-eq_default}
use Rattle.records.specs.declared.TaskNo.{TaskNo}
use Rattle.executive.specs.declared.State.TheVariants.{Dormant}
use Rattle.executive.specs.declared.Task.{Task}
use Rattle.executive.specs.declared.Message.{Message}
use Rattle.executive.specs.Lists.{one, sum_of}
use Rattle.executive.specs.Queue.{Item, behind, insert, count, AllLe, Desc}
use Rattle.executive.specs.Places.{no_task, task_at, times_in}
use Rattle.executive.specs.States.{is_as}
use Rattle.executive.specs.Table.{items}
use Rattle.executive.specs.Messages.{put_behind, post, noted, urgency}
use Rattle.executive.specs.WellFormed.{Line}
use Rattle.executive.proofs.Assured.{insert_desc, put_length, put_sum, post-sorted, Lt, lt_yes, lt_no, ltb-is}
use Rattle.mender.specs.Rebuilding.{rank, line_turn, line_from, post_all}
use Rattle.mender.proofs.Turns.{each_keeps}

-- a number with its rank, as the queue's law sees it
abbrev keyed : List Task → List TaskNo → TaskNo → Item
keyed ts old k = record { task = k.0; prio = rank ts old k }

keyed_put : (ts : List Task) (old : List TaskNo) (x : TaskNo) (xs : List TaskNo)
    → map (keyed ts old) (put_behind (rank ts old) x xs) ≡ insert (keyed ts old x) (map (keyed ts old) xs)
unfolding put_behind insert
keyed_put ts old x [] = refl
keyed_put ts old x (y ∷ ys) = go (behind (rank ts old x) (rank ts old y)) (keyed_put ts old x ys)
  where
    go : (b : Bool) → map (keyed ts old) (put_behind (rank ts old) x ys) ≡ insert (keyed ts old x) (map (keyed ts old) ys)
        → map (keyed ts old) (cond b (y ∷ put_behind (rank ts old) x ys) (x ∷ y ∷ ys))
        ≡ cond b (keyed ts old y ∷ insert (keyed ts old x) (map (keyed ts old) ys)) (keyed ts old x ∷ keyed ts old y ∷ map (keyed ts old) ys)
    go true ih = ap (λ (l : List Item). keyed ts old y ∷ l) ih
    go false ih = refl

-- descending by rank they descend by priority: a place is less than a level
rank-level : (ts : List Task) (old : List TaskNo) (x y : TaskNo) → rank ts old x ≤ rank ts old y → (task_at ts x.0).priority ≤ (task_at ts y.0).priority
unfolding rank
rank-level ts old x y h = omega arith

levels-le : (ts : List Task) (old : List TaskNo) (y : TaskNo) (xs : List TaskNo) → AllLe (rank ts old y) (map (keyed ts old) xs) → AllLe (task_at ts y.0).priority (items ts xs)
unfolding items
levels-le ts old y [] a = tt
levels-le ts old y (x ∷ xs) a = (rank-level ts old x y a.0, levels-le ts old y xs a.1)

levels_fall : (ts : List Task) (old : List TaskNo) (xs : List TaskNo) → Desc (map (keyed ts old) xs) → Desc (items ts xs)
unfolding items
levels_fall ts old [] d = tt
levels_fall ts old (x ∷ xs) d = (levels-le ts old x xs d.0, levels_fall ts old xs d.1)

-- how often a number stands in a line
count-is : (ts : List Task) (k : ℕ) (xs : List TaskNo) → count k (items ts xs) ≡ times_in k xs
unfolding count items sum_of
count-is ts k [] = refl
count-is ts k (x ∷ xs) = ap (λ (n : ℕ). one (eqb k x.0) + n) (count-is ts k xs)

-- past the last entry
past : (ts : List Task) → length ts ≡ 16 → (k : ℕ) → 17 ≤ k → task_at ts k ≡ no_task
unfolding task_at
past ts n zero h = refl
past ts n (suc i) h = get_or-eq_default ts no_task {n = i} (omega arith)

-- ---- the numbers below k are passed
record Lining (kind m : ℕ) (ts : List Task) (old : List TaskNo) (k : ℕ) (xs : List TaskNo) : Type 0 where
  passed : (j : ℕ) → j < k → times_in j xs ≡ one (is_as kind m (task_at ts j).state)
  other : (j : ℕ) → k ≤ j → times_in j xs ≡ 0
  few : length xs < k
  falls : Desc (map (keyed ts old) xs)

module _ (kind m : ℕ) (ts : List Task) (old : List TaskNo) (z : is_as kind m Dormant ≡ false) where
  line-begin : Lining kind m ts old 1 []
  unfolding sum_of task_at
  line-begin = record { passed = first; other = λ j h. refl; few = omega arith; falls = tt }
    where
      first : (j : ℕ) → j < 1 → 0 ≡ one (is_as kind m (task_at ts j).state)
      first zero h = sym (ap one z)
      first (suc j) h = absurd (omega arith)

  line-turn : (k : ℕ) (xs : List TaskNo) → Lining kind m ts old k xs → Lining kind m ts old (k + 1) (line_turn kind m ts old xs k)
  unfolding line_turn
  line-turn k xs l = go (is_as kind m (task_at ts k).state) refl
    where
      x : TaskNo
      x = record { 0 = k }

      go : (b : Bool) → is_as kind m (task_at ts k).state ≡ b → Lining kind m ts old (k + 1) (cond b (put_behind (rank ts old) x xs) xs)
      go true e = record {
        passed = λ j h. more j ∙ by j h (eqb j k) refl;
        other = λ j h. more j ∙ (let w : one (eqb j k) ≡ 0 = apart j h (eqb j k) refl in omega (arith, l.other j (omega arith)));
        few = let w = put_length (rank ts old) x xs in omega (arith, l.few);
        falls = rw (keyed_put ts old x xs) (insert_desc (keyed ts old x) (map (keyed ts old) xs) l.falls);
      }
        where
          more : (j : ℕ) → times_in j (put_behind (rank ts old) x xs) ≡ one (eqb j k) + times_in j xs
          more j = put_sum (rank ts old) (λ (y : TaskNo). one (eqb j y.0)) x xs

          by : (j : ℕ) → j < k + 1 → (b : Bool) → eqb j k ≡ b → one b + times_in j xs ≡ one (is_as kind m (task_at ts j).state)
          by j h true q = let w : j ≡ k = eqb-true j k q in let v : times_in j xs ≡ 0 = l.other j (omega arith) in rw (v, w, e) refl
          by j h false q = let w = eqb-false j k q in omega (arith, l.passed j (omega arith))

          apart : (j : ℕ) → k + 1 ≤ j → (b : Bool) → eqb j k ≡ b → one b ≡ 0
          apart j h true q = absurd (omega (arith, eqb-true j k q))
          apart j h false q = refl
      go false e = record {
        passed = λ j h. by j h (eqb j k) refl;
        other = λ j h. l.other j (omega arith);
        few = omega (arith, l.few);
        falls = l.falls;
      }
        where
          by : (j : ℕ) → j < k + 1 → (b : Bool) → eqb j k ≡ b → times_in j xs ≡ one (is_as kind m (task_at ts j).state)
          by j h true q = let w : j ≡ k = eqb-true j k q in l.other j (omega arith) ∙ rw (w, e) refl
          by j h false q = let w = eqb-false j k q in l.passed j (omega arith)

  lined : Lining kind m ts old 17 (line_from kind m ts old)
  unfolding line_from
  lined = each_keeps (line_turn kind m ts old) (λ k xs. Lining kind m ts old k xs) 16 1 [] line-begin (λ k xs g h l. line-turn k xs l)

  pub line-few : length (line_from kind m ts old) ≤ 16
  line-few = omega (arith, lined.few)

  pub line_law : length ts ≡ 16 → Line (is_as kind m) ts (line_from kind m ts old)
  line_law n = record { exact = λ k. count-is ts k (line_from kind m ts old) ∙ go k (ltb k 17) (ltb-is k 17); sorted = levels_fall ts old (line_from kind m ts old) lined.falls }
    where
      go : (k : ℕ) (b : Bool) → Lt k 17 b → times_in k (line_from kind m ts old) ≡ one (is_as kind m (task_at ts k).state)
      go k true (lt_yes h) = lined.passed k h
      go k false (lt_no h) = lined.other k h ∙ sym (rw (past ts n k h) (ap one z))

-- ---- the messages, one after the other
module _ (g : Message → ℕ) where
  pub posted-sum : (xs ms : List Message) → sum_of g (post_all xs ms) ≡ sum_of g xs + sum_of g ms
  unfolding post_all sum_of
  posted-sum [] ms = omega arith
  posted-sum (x ∷ xs) ms = omega (arith, posted-sum xs (post x ms), put_sum urgency g x ms)

pub posted-length : (xs ms : List Message) → length (post_all xs ms) ≡ length xs + length ms
unfolding post_all
posted-length [] ms = omega arith
posted-length (x ∷ xs) ms = omega (arith, posted-length xs (post x ms), put_length urgency x ms)

pub posted-falls : (xs ms : List Message) → Desc (map noted ms) → Desc (map noted (post_all xs ms))
unfolding post_all
posted-falls [] ms d = d
posted-falls (x ∷ xs) ms d = posted-falls xs (post x ms) (post-sorted x ms d)
