-- The word of the ready levels: the bits of 02's rule are those of `levels_of` of the queue, both ways.
use mathlib.Core.Path.{◌≡◌, refl, sym, ap, ◌∙◌}
use mathlib.Core.Bool.{Bool, true, false, cond, ◌||◌}
use mathlib.Core.List.{List, [], ◌∷◌}
use Prim.Native.Nat.{ℕ, ◌+◌, ◌^◌, ◌≤◌, ◌<◌}
use native.Mathlib.Omega.{arith}
use borrow.Author.Tests.{eqb-true, le-leb, leb-true}
use lib.Dec.{eqb, leb}
use lib.Pow.{pow-lt}
use lib.Bits.{or_lt}
use Rattle.records.specs.declared.TaskNo.{TaskNo}
use Rattle.executive.specs.declared.State.{State}
use Rattle.executive.specs.declared.Task.{Task}
use Rattle.executive.specs.declared.Table.{Table}
use Rattle.executive.specs.Lists.{one}
use Rattle.executive.specs.Queue.{Item, count}
use Rattle.executive.specs.Places.{task_at}
use Rattle.executive.specs.Table.{line, items, view, level_bit, levels_of}
use Rattle.executive.specs.States.{ready, is_of, is, is_ready}
use Rattle.executive.specs.Flags.{is_set}
use Rattle.executive.specs.WellFormed.{Line, Lit, Levels}
use Rattle.executive.proofs.Lists.Tests.{false_not_true, eqb_self}
use Rattle.executive.proofs.states.Laws.{ready-named, ready-kind}
use Rattle.executive.proofs.flags.Bits.{set-none, set-or, set_same, set-only, same_bits}

-- ---- one priority's bit
bit_below : (p : ℕ) → level_bit p < 2 ^ 16
bit_below p = go (leb p 15) refl
  where
    go : (b : Bool) → leb p 15 ≡ b → cond b (2 ^ p) 0 < 2 ^ 16
    go true e = pow-lt {j = 16} (omega (arith, leb-true p 15 e))
    go false e = omega arith

bit-set : (p : ℕ) → p ≤ 15 → is_set (level_bit p) p ≡ true
bit-set p h = rw (le-leb p 15 h) (set_same p)

bit-only : (q p : ℕ) → is_set (level_bit q) p ≡ true → q ≡ p
bit-only q p = go (leb q 15)
  where
    go : (b : Bool) → is_set (cond b (2 ^ q) 0) p ≡ true → q ≡ p
    go true h = set-only q p h
    go false h = false_not_true (sym (set-none p) ∙ h)

-- ---- the word of a queue
pub levels-below : (q : List Item) → levels_of q < 2 ^ 16
unfolding levels_of
levels-below [] = omega arith
levels-below (x ∷ q) = or_lt 16 (level_bit x.prio) (levels_of q) (bit_below x.prio) (levels-below q)

or_true : (a b : Bool) → a || b ≡ true → a ≡ false → b ≡ true
or_true true b h e = false_not_true (sym e)
or_true false b h e = h

or_right : (a b : Bool) → b ≡ true → a || b ≡ true
or_right true b h = refl
or_right false b h = h

module _ (ts : List Task) (p : ℕ) where
  -- one of the line r has priority p
  record Stands (r : List TaskNo) : Type 0 where
    pub task : ℕ
    pub inside : 0 < count task (items ts r)
    pub level : (task_at ts task).priority ≡ p

  set-stands : (r : List TaskNo) → is_set (levels_of (items ts r)) p ≡ true → Stands r
  unfolding levels_of items count
  set-stands [] h = false_not_true (sym (set-none p) ∙ h)
  set-stands (k ∷ r) h = go (is_set (level_bit (task_at ts k.0).priority) p) refl (set-stands r)
    where
      go : (b : Bool) → is_set (level_bit (task_at ts k.0).priority) p ≡ b → (is_set (levels_of (items ts r)) p ≡ true → Stands r) → Stands (k ∷ r)
      go true e ih = record { task = k.0; inside = omega (arith, ap one (eqb_self k.0)); level = bit-only (task_at ts k.0).priority p e }
      go false e ih =
          let s = ih (or_true _ _ (sym (set-or p (level_bit (task_at ts k.0).priority) (levels_of (items ts r))) ∙ h) e) in
          record { task = s.task; inside = omega (arith, s.inside); level = s.level }

  stands_set : p ≤ 15 → (k : ℕ) → (task_at ts k).priority ≡ p → (r : List TaskNo) → 0 < count k (items ts r) → is_set (levels_of (items ts r)) p ≡ true
  unfolding levels_of items count
  stands_set l k e [] h = absurd (omega arith)
  stands_set l k e (j ∷ r) h = set-or p (level_bit (task_at ts j.0).priority) (levels_of (items ts r)) ∙ go (eqb k j.0) refl h (stands_set l k e r)
    where
      go : (b : Bool) → eqb k j.0 ≡ b → 0 < one b + count k (items ts r) → (0 < count k (items ts r) → is_set (levels_of (items ts r)) p ≡ true)
          → is_set (level_bit (task_at ts j.0).priority) p || is_set (levels_of (items ts r)) p ≡ true
      go true f h ih =
          let q : (task_at ts j.0).priority ≡ p = ap (λ (n : ℕ). (task_at ts n).priority) (sym (eqb-true k j.0 f)) ∙ e in
          rw (q, bit-set p l) refl
      go false f h ih = or_right (is_set (level_bit (task_at ts j.0).priority) p) (is_set (levels_of (items ts r)) p) (ih (omega arith))

ready-some : (s : State) → 0 < is ready s → is ready s ≡ 1
ready-some s h = go (is_of ready s) h
  where
    go : (b : Bool) → 0 < one b → one b ≡ 1
    go true h = refl
    go false h = absurd (omega arith)

-- ---- the two forms of the rule
module _ (t : Table) (q : Line is_ready t.tasks (line t)) (low : (k : ℕ) → (task_at t.tasks k).priority ≤ 15) where
  lit-of : (p : ℕ) → is_set (levels_of (view t)) p ≡ true → Lit t p
  lit-of p h =
      let s = set-stands t.tasks p (line t) h in
      record { task = s.task; ready = ready-named _ (ready-some (task_at t.tasks s.task).state (omega (arith, s.inside, q.exact s.task))); priority = s.level }

  of-lit : (p : ℕ) → Lit t p → is_set (levels_of (view t)) p ≡ true
  of-lit p l =
      let e = l.priority in
      stands_set t.tasks p (omega (arith, low l.task)) l.task l.priority (line t) (omega (arith, ready-kind _ l.ready, q.exact l.task))

  pub levels-get : t.levels ≡ levels_of (view t) → Levels t
  levels-get e = record { word = rw e (levels-below (view t)); bits = λ p. (λ h. lit-of p (sym (ap (λ (x : ℕ). is_set x p) e) ∙ h), λ l. ap (λ (x : ℕ). is_set x p) e ∙ of-lit p l) }

  pub levels_make : Levels t → t.levels ≡ levels_of (view t)
  levels_make w =
      same_bits 16 t.levels (levels_of (view t)) w.word (levels-below (view t)) (λ p. (λ h. of-lit p ((w.bits p).0 h), λ h. (w.bits p).1 (lit-of p h)))
