-- The word on the way: who enters brings its bit, and the first in line takes its bit along unless the next has it too.
use Prim.Native.Nat.{ℕ, ◌+◌, ◌-◌, ◌^◌, ◌≤◌, ◌<◌}
use mathlib.Core.Path.{◌≡◌, refl, sym, ap, ◌∙◌}
use mathlib.Core.Bool.{Bool, true, false, cond}
use mathlib.Core.List.{List, [], ◌∷◌, tail}
use native.Mathlib.Omega.{arith}
use native.Mathlib.Nat.{one-mul}
use borrow.Author.Tests.{eqb-true, eqb-false, ne_eqb}
use lib.Dec.{eqb, leb}
use lib.Pow.{pow-lt, pow_pos}
use lib.Bits.{bit_or, or_zero_l, or_zero_r, or_comm, or_self, or_lt, or_shifted, or_add_and, and_le_r}
use lib.ListN.{length, get_or}
use lib.Seq.{get_or-take}
use Rattle.records.specs.declared.TaskNo.{TaskNo}
use Rattle.executive.specs.declared.Task.{Task}
use Rattle.executive.specs.declared.Table.{Table}
use Rattle.executive.specs.Queue.{Item, AllLe, Desc, behind, insert, count}
use Rattle.executive.specs.Places.{nobody, task_at, put_at}
use Rattle.executive.specs.States.{is_ready}
use Rattle.executive.specs.WellFormed.{Line}
use Rattle.executive.specs.Table.{ArraysInOrder, line, items, view, level_bit, levels_of, relit, head_of, departed, enter_at, entered, ahead_of, slid_of}
use Rattle.executive.specs.Lists.{closed_at}
use Rattle.executive.proofs.Lists.Pad.{line-pad}
use Rattle.executive.proofs.flags.Bits.{or_assoc}
use Rattle.executive.proofs.queue.Law.{items-enter}
use Rattle.executive.proofs.queue.ArraysAreLists.{line-length, head-line, made-departed, made-entered}
use Rattle.executive.proofs.Plans.Moves.{items_put}
use Rattle.executive.proofs.Plans.GoodIsKept.{once}

-- the same queue beside another word
abbrev pub with_word : ℕ → Table → Table
with_word x t = record { tasks = t.tasks; queue = t.queue; ready = t.ready; levels = x; rest = t.rest }

-- a table that has its word
pub lit-same : (t : Table) → t.levels ≡ levels_of (view t) → t ≡ relit t
lit-same t e = ap (λ (x : ℕ). with_word x t) e

-- ---- one enters
or_swap : (a b c : ℕ) → bit_or a (bit_or b c) ≡ bit_or b (bit_or a c)
or_swap a b c = sym (or_assoc a b c) ∙ ap (λ (x : ℕ). bit_or x c) (or_comm a b) ∙ or_assoc b a c

insert-word : (x : Item) (q : List Item) → levels_of (insert x q) ≡ bit_or (level_bit x.prio) (levels_of q)
unfolding insert levels_of
insert-word x [] = refl
insert-word x (y ∷ q) = go (behind x.prio y.prio) (insert-word x q)
  where
    go : (b : Bool) → levels_of (insert x q) ≡ bit_or (level_bit x.prio) (levels_of q)
        → levels_of (cond b (y ∷ insert x q) (x ∷ y ∷ q)) ≡ bit_or (level_bit x.prio) (bit_or (level_bit y.prio) (levels_of q))
    go true ih = ap (bit_or (level_bit y.prio)) ih ∙ or_swap (level_bit y.prio) (level_bit x.prio) (levels_of q)
    go false ih = refl

module _ (t : Table) (f : ArraysInOrder t) (e : t.levels ≡ levels_of (view t)) where
  module _ (k : TaskNo) (x : Task) (a : count k.0 (view t) ≡ 0) where
    abbrev ts' : List Task
    ts' = put_at t.tasks k.0 x

    entered-word : levels_of (view (entered k x t)) ≡ bit_or (level_bit (task_at ts' k.0).priority) t.levels
    unfolding entered
    entered-word =
        ap (λ (r : List TaskNo). levels_of (items ts' r)) (line-pad nobody 16 (enter_at ts' k (line t)))
        ∙ ap levels_of (items-enter ts' k (line t))
        ∙ insert-word _ (items ts' (line t))
        ∙ ap (bit_or (level_bit (task_at ts' k.0).priority)) (ap levels_of (items_put t.tasks k.0 x (line t) a) ∙ sym e)

    -- the table that the code makes
    pub lit-entered : t.ready < 16
        → record {
          tasks = ts';
          queue = slid_of t.queue (ahead_of ts' (task_at ts' k.0).priority (line t)) t.ready k;
          ready = t.ready + 1;
          levels = bit_or (level_bit (task_at ts' k.0).priority) t.levels;
          rest = t.rest;
        } ≡ relit (entered k x t)
    lit-entered h =
        ap (with_word (bit_or (level_bit (task_at ts' k.0).priority) t.levels)) (made-entered t f k x h)
        ∙ ap (λ (w : ℕ). with_word w (entered k x t)) (sym entered-word)

-- ---- the first in line leaves
or_most : (a b : ℕ) → a ≤ bit_or a b
or_most a b = omega (arith, or_add_and a b, and_le_r a b)

-- the word of those whose priorities are below n
bit-under : (n p : ℕ) → p < n → level_bit p < 2 ^ n
bit-under n p h = go (leb p 15)
  where
    go : (b : Bool) → cond b (2 ^ p) 0 < 2 ^ n
    go true = pow-lt {j = n} h
    go false = pow_pos n

word-under : (n m : ℕ) (q : List Item) → m < n → AllLe m q → levels_of q < 2 ^ n
unfolding levels_of
word-under n m [] h a = pow_pos n
word-under n m (x ∷ q) h a = or_lt n (level_bit x.prio) (levels_of q) (bit-under n x.prio (omega (arith, a.0))) (word-under n m q h a.1)

take-bit : (p w : ℕ) → w < 2 ^ p → bit_or (level_bit p) w - level_bit p ≡ w
take-bit p w h = go (leb p 15)
  where
    go : (b : Bool) → bit_or (cond b (2 ^ p) 0) w - cond b (2 ^ p) 0 ≡ w
    go true =
        let z : bit_or (2 ^ p) w ≡ 2 ^ p + w = ap (λ (x : ℕ). bit_or x w) (sym (one-mul (2 ^ p))) ∙ or_shifted 1 p w h ∙ ap (λ (x : ℕ). x + w) (one-mul (2 ^ p)) in
        omega (arith, z)
    go false = omega (arith, or_zero_l w)

module _ (ts : List Task) (c : TaskNo) where
  abbrev p : ℕ
  p = (task_at ts c.0).priority

  -- what the code makes of the word, n being the priority of the next in line, or 16
  abbrev cleared : ℕ → ℕ → ℕ
  cleared n w = cond (eqb n p) w (w - level_bit p)

  word_out : (r : List TaskNo) → Desc (items ts (c ∷ r))
      → cleared (cond (eqb (length (c ∷ r)) 1) 16 (task_at ts (get_or (c ∷ r) 1 nobody).0).priority) (levels_of (items ts (c ∷ r))) ≡ levels_of (items ts r)
  unfolding levels_of items
  word_out [] d = go (eqb 16 p) refl
    where
      go : (b : Bool) → eqb 16 p ≡ b → cond b (bit_or (level_bit p) 0) (bit_or (level_bit p) 0 - level_bit p) ≡ 0
      go true e = or_zero_r (level_bit p) ∙ sym (ap level_bit (eqb-true 16 p e))
      go false e = omega (arith, or_zero_r (level_bit p))
  word_out (k ∷ r) d = rw (ne_eqb (length (c ∷ k ∷ r)) 1 (λ z. absurd (omega arith))) (go (eqb o p) refl)
    where
      o : ℕ
      o = (task_at ts k.0).priority

      m : ℕ
      m = levels_of (items ts r)

      go : (b : Bool) → eqb o p ≡ b → cond b (bit_or (level_bit p) (bit_or (level_bit o) m)) (bit_or (level_bit p) (bit_or (level_bit o) m) - level_bit p) ≡ bit_or (level_bit o) m
      go true e = sym (or_assoc (level_bit p) (level_bit o) m) ∙ ap (λ (x : ℕ). bit_or x m) (ap (λ (x : ℕ). bit_or (level_bit p) (level_bit x)) (eqb-true o p e) ∙ or_self (level_bit p) ∙ sym (ap level_bit (eqb-true o p e)))
      go false e = take-bit p (bit_or (level_bit o) m) (word-under p o (items ts (k ∷ r)) (omega (arith, d.0.0, eqb-false o p e)) (omega arith, d.1.0))

  bit_in : (r : List TaskNo) → level_bit p ≤ levels_of (items ts (c ∷ r))
  unfolding levels_of items
  bit_in r = or_most (level_bit p) (levels_of (items ts r))

module _ (t : Table) (f : ArraysInOrder t) (q : Line is_ready t.tasks (line t)) (e : t.levels ≡ levels_of (view t)) (h : 0 < t.ready) where
  abbrev ts : List Task
  ts = t.tasks

  abbrev level : TaskNo → ℕ
  level k = (task_at ts k.0).priority

  -- the next in line
  next_in : cond (eqb t.ready 1) 16 (level (get_or t.queue 1 nobody)) ≡ cond (eqb (length (line t)) 1) 16 (level (get_or (line t) 1 nobody))
  next_in = ap (λ (n : ℕ). cond (eqb n 1) 16 (level (get_or t.queue 1 nobody))) (sym (line-length t f)) ∙ go (eqb (length (line t)) 1) refl
    where
      go : (b : Bool) → eqb (length (line t)) 1 ≡ b → cond b 16 (level (get_or t.queue 1 nobody)) ≡ cond b 16 (level (get_or (line t) 1 nobody))
      go true z = refl
      go false z = ap level (sym (get_or-take t.ready t.queue 1 nobody (omega (arith, line-length t f, eqb-false (length (line t)) 1 z))))

  pub has-bit : (d : TaskNo) → level_bit (level (get_or t.queue 0 d)) ≤ t.levels
  has-bit d = rw (head-line t f d h, e) (go (line t) (line-length t f))
    where
      go : (r : List TaskNo) → length r ≡ t.ready → level_bit (level (head_of r)) ≤ levels_of (items ts r)
      go [] z = absurd (omega arith)
      go (c ∷ r) z = bit_in ts c r

  abbrev word : TaskNo → ℕ
  word d = cond (eqb (cond (eqb t.ready 1) 16 (level (get_or t.queue 1 nobody))) (level (get_or t.queue 0 d))) t.levels (t.levels - level_bit (level (get_or t.queue 0 d)))

  departed-word : (x : Task) (d : TaskNo) → word d ≡ levels_of (view (departed x t))
  unfolding departed
  departed-word x d =
      let z : items (put_at ts (head_of (line t)).0 x) (tail (line t)) ≡ items ts (tail (line t)) = items_put ts (head_of (line t)).0 x (tail (line t)) (once ts (line t) q) in
      rw (head-line t f d h, next_in, e) (go (line t) q (line-length t f))
      ∙ sym (ap (λ (r : List TaskNo). levels_of (items (put_at ts (head_of (line t)).0 x) r)) (line-pad nobody 16 (tail (line t))) ∙ ap levels_of z)
    where
      go : (r : List TaskNo) → Line is_ready ts r → length r ≡ t.ready
          → cleared ts (head_of r) (cond (eqb (length r) 1) 16 (level (get_or r 1 nobody))) (levels_of (items ts r)) ≡ levels_of (items ts (tail r))
      go [] y z = absurd (omega arith)
      go (c ∷ r) y z = word_out ts c r y.sorted

  -- the table that the code makes
  pub lit-departed : (x : Task) (d : TaskNo)
      → record { tasks = put_at ts (get_or t.queue 0 d).0 x; queue = closed_at nobody t.queue 0; ready = t.ready - 1; levels = word d; rest = t.rest } ≡ relit (departed x t)
  lit-departed x d = ap (with_word (word d)) (made-departed t f x d h) ∙ ap (λ (w : ℕ). with_word w (departed x t)) (departed-word x d)
