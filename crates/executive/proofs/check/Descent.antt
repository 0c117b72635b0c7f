-- The check of the queue's order: its loop, and that it passes exactly where all who stand there are tasks, in
-- descending priority.
use Prim.Native.Nat.{ℕ, zero, suc, ◌+◌, ◌≤◌, ◌<◌}
use mathlib.Core.Path.{◌≡◌, refl, sym, ap, ◌∙◌}
use mathlib.Core.Bool.{Bool, true, false, cond}
use mathlib.Core.List.{List, [], ◌∷◌}
use native.Mathlib.Omega.{arith}
use native.Mathlib.Numerals.{add-one}
use borrow.Author.Tests.{lt-ltb, le-ltb, le-leb, lt-leb, leb-true, ltb-false, eq-eqb}
use lib.Dec.{leb, ltb, eqb}
use lib.Bits.{bit_or, or_zero_l, or_zero_r}
use lib.ListN.{length, take, drop, get_or, drop_of_length-le}
use lib.Seq.{length-take-le, get_or-take, drop-cons}
use Rattle.records.specs.declared.TaskNo.{TaskNo}
use Rattle.executive.specs.declared.Task.{Task}
use Rattle.executive.specs.Queue.{Item, count, AllLe, Desc}
use Rattle.executive.specs.Lists.{one, ◌and◌, all_of}
use Rattle.executive.specs.Places.{nobody, no_task, task_at, entry_place}
use Rattle.executive.specs.Table.{items, level_bit, levels_of}
use Rattle.executive.specs.Check.{is_task, falls}
use Rattle.executive.proofs.places.TaskAt.{at_place}
use Rattle.executive.proofs.Lists.Loops.{both}
use Rattle.executive.proofs.flags.Bits.{or_assoc}

-- a number names one of n tasks where its place is one of theirs
task-place : (n : ℕ) (k : TaskNo) → n ≤ 16 → is_task n k ≡ ltb (entry_place k.0) n
unfolding entry_place
task-place n k h = go k.0
  where
    go : (m : ℕ) → (ltb 0 m and leb m n) ≡ ltb (entry_place m) n
    go zero = sym (le-ltb 16 n h)
    go (suc i) = rw (lt-ltb 0 (suc i) (omega arith)) (near (ltb i 16) refl)
      where
        near : (b : Bool) → ltb i 16 ≡ b → ltb i n ≡ ltb (cond b i 16) n
        near true l = refl
        near false l = let g = ltb-false i 16 l in le-ltb i n (omega arith) ∙ sym (le-ltb 16 n h)

-- the turns of the loop over a line
module _ (ts : List Task) (n : ℕ) (xs : List TaskNo) (i p : ℕ) where
  opened : i < length xs → drop i xs ≡ get_or xs i nobody ∷ drop (i + 1) xs
  opened h = drop-cons xs i nobody h ∙ rw add-one refl

  pub line-off : i < length xs → is_task n (get_or xs i nobody) ≡ false → falls ts n p (drop i xs) ≡ false
  unfolding falls
  line-off h t = rw (opened h, t) refl

  pub line-over : i < length xs → is_task n (get_or xs i nobody) ≡ true → p < (task_at ts (get_or xs i nobody).0).priority → falls ts n p (drop i xs) ≡ false
  unfolding falls
  line-over h t o = rw (opened h, t, lt-leb (task_at ts (get_or xs i nobody).0).priority p o) refl

  pub line-turn : i < length xs → is_task n (get_or xs i nobody) ≡ true → (task_at ts (get_or xs i nobody).0).priority ≤ p
      → falls ts n (task_at ts (get_or xs i nobody).0).priority (drop (i + 1) xs) ≡ falls ts n p (drop i xs)
  unfolding falls
  line-turn h t o = rw (opened h, t, le-leb (task_at ts (get_or xs i nobody).0).priority p o) refl

  pub line-end : length xs ≤ i → falls ts n p (drop i xs) ≡ true
  unfolding falls
  line-end h = rw (drop_of_length-le xs {i = i} h) refl

-- the word so far, and that of those who are left
module _ (ts : List Task) (xs ys : List TaskNo) (i w : ℕ) where
  pub word-turn : (x : ℕ) → i < length xs → x ≡ (task_at ts (get_or xs i nobody).0).priority → levels_of (items ts ys) ≡ bit_or w (levels_of (items ts (drop i xs)))
      → levels_of (items ts ys) ≡ bit_or (bit_or w (level_bit x)) (levels_of (items ts (drop (i + 1) xs)))
  unfolding levels_of items
  word-turn x h f g =
      g
      ∙ ap (λ (l : List TaskNo). bit_or w (levels_of (items ts l))) (opened ts 0 xs i 0 h)
      ∙ sym (or_assoc w (level_bit (task_at ts (get_or xs i nobody).0).priority) (levels_of (items ts (drop (i + 1) xs))))
      ∙ ap (λ (y : ℕ). bit_or (bit_or w (level_bit y)) (levels_of (items ts (drop (i + 1) xs)))) (sym f)

  pub word-end : length xs ≤ i → levels_of (items ts ys) ≡ bit_or w (levels_of (items ts (drop i xs))) → w ≡ levels_of (items ts ys)
  unfolding levels_of items
  word-end h g = sym (g ∙ ap (λ (l : List TaskNo). bit_or w (levels_of (items ts l))) (drop_of_length-le xs {i = i} h) ∙ or_zero_r w)

-- the same over the first r places of an array
module _ (ts : List Task) (n : ℕ) (q : List TaskNo) (r : ℕ) (hr : r ≤ length q) (i p : ℕ) where
  past : r ≤ i → length (take r q) ≤ i
  past h = rw (length-take-le r q hr) h

  -- the next in the line, k being its place
  module _ (h : i < r) (hn : n ≤ 16) (ht : length ts ≡ 16) (k : ℕ) (e : k ≡ entry_place (get_or q i nobody).0) where
    here : i < length (take r q)
    here = rw (length-take-le r q hr) h

    read : get_or (take r q) i nobody ≡ get_or q i nobody
    read = get_or-take r q i nobody h

    entry : (task_at ts (get_or (take r q) i nobody).0).priority ≡ (get_or ts k no_task).priority
    entry = rw (read, e) (ap (λ (t : Task). t.priority) (at_place ts ht (get_or q i nobody).0))

    within : (b : Bool) → ltb k n ≡ b → is_task n (get_or (take r q) i nobody) ≡ b
    within b l = rw read (task-place n (get_or q i nobody) hn ∙ rw e at l)

    pub falls-off : n ≤ k → falls ts n p (drop i (take r q)) ≡ false
    falls-off l = line-off ts n (take r q) i p here (within false (le-ltb k n l))

    pub falls-over : k < n → p < (get_or ts k no_task).priority → falls ts n p (drop i (take r q)) ≡ false
    falls-over l o = line-over ts n (take r q) i p here (within true (lt-ltb k n l)) (rw entry o)

    pub falls-turn : k < n → (get_or ts k no_task).priority ≤ p → falls ts n (get_or ts k no_task).priority (drop (i + 1) (take r q)) ≡ falls ts n p (drop i (take r q))
    falls-turn l o = rw (← entry) (line-turn ts n (take r q) i p here (within true (lt-ltb k n l)) (rw entry o))

    pub word_on : (w x : ℕ) → x ≡ (get_or ts k no_task).priority → levels_of (items ts (take r q)) ≡ bit_or w (levels_of (items ts (drop i (take r q))))
        → levels_of (items ts (take r q)) ≡ bit_or (bit_or w (level_bit x)) (levels_of (items ts (drop (i + 1) (take r q))))
    word_on w x f = word-turn ts (take r q) (take r q) i w x here (f ∙ sym entry)

  pub word_end : (w : ℕ) → r ≤ i → levels_of (items ts (take r q)) ≡ bit_or w (levels_of (items ts (drop i (take r q)))) → w ≡ levels_of (items ts (take r q))
  word_end w h = word-end ts (take r q) (take r q) i w (past h)

  pub falls-end : r ≤ i → falls ts n p (drop i (take r q)) ≡ true
  falls-end h = line-end ts n (take r q) i p (past h)

-- the tests in the code's order are the same test
pub lit-order : (z a f x e : Bool) → (z and (a and ((f and e) and x))) ≡ ((z and (a and (f and x))) and e)
lit-order false a f x e = refl
lit-order true false f x e = refl
lit-order true true false x e = refl
lit-order true true true true true = refl
lit-order true true true true false = refl
lit-order true true true false true = refl
lit-order true true true false false = refl

-- a lower bound on priorities is one too
all_le_mono : (m n : ℕ) (q : List Item) → m ≤ n → AllLe m q → AllLe n q
all_le_mono m n [] h a = tt
all_le_mono m n (x ∷ q) h a = (omega arith, all_le_mono m n q h a.1)

module _ (ts : List Task) (n : ℕ) where
  pub falls-tasks : (p : ℕ) (xs : List TaskNo) → falls ts n p xs ≡ true → all_of (is_task n) xs ≡ true
  unfolding falls all_of
  falls-tasks p [] e = refl
  falls-tasks p (k ∷ ks) e =
      let a = both (is_task n k) _ e in
      let b = both (leb (task_at ts k.0).priority p) _ a.1 in
      rw a.0 (falls-tasks (task_at ts k.0).priority ks b.1)

  pub falls_desc : (p : ℕ) (xs : List TaskNo) → falls ts n p xs ≡ true → AllLe p (items ts xs) × Desc (items ts xs)
  unfolding falls items
  falls_desc p [] e = (tt, tt)
  falls_desc p (k ∷ ks) e =
      let a = both (is_task n k) _ e in
      let b = both (leb (task_at ts k.0).priority p) _ a.1 in
      let h : (task_at ts k.0).priority ≤ p = leb-true _ _ b.0 in
      let r = falls_desc (task_at ts k.0).priority ks b.1 in
      ((h, all_le_mono (task_at ts k.0).priority p (items ts ks) h r.0), r)

  pub desc_falls : (p : ℕ) (xs : List TaskNo) → all_of (is_task n) xs ≡ true → AllLe p (items ts xs) → Desc (items ts xs) → falls ts n p xs ≡ true
  unfolding falls items all_of
  desc_falls p [] t a d = refl
  desc_falls p (k ∷ ks) t a d =
      let b = both (is_task n k) _ t in
      rw (b.0, le-leb (task_at ts k.0).priority p a.0) (desc_falls (task_at ts k.0).priority ks b.1 d.0 d.1)

  -- what is at most p at every number is so in a queue
  pub low : (p : ℕ) (xs : List TaskNo) → ((k : ℕ) → (task_at ts k).priority ≤ p) → AllLe p (items ts xs)
  unfolding items
  low p [] h = tt
  low p (k ∷ ks) h = (h k.0, low p ks h)

  -- where whoever stands in a queue is a task, all who stand there are
  pub all-tasks : (xs : List TaskNo) → ((k : TaskNo) → 0 < count k.0 (items ts xs) → is_task n k ≡ true) → all_of (is_task n) xs ≡ true
  unfolding items count all_of
  all-tasks [] h = refl
  all-tasks (x ∷ xs) h =
      let z : one (eqb x.0 x.0) ≡ 1 = ap one (eq-eqb x.0 x.0 refl) in
      rw (h x (omega arith)) (all-tasks xs (λ k g. h k (omega arith)))

-- for the code: these, taken together
pub ruleset descent = (line-off, line-over, line-turn, line-end)

pub ruleset words = (word-turn, word-end, or_zero_l)
