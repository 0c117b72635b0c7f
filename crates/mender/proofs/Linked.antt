-- The links' pass: who is named stands in a row by place, each once, by a link of the kind that its state waits for; and what
-- the pass keeps.
use Prim.Native.Nat.{ℕ, zero, suc, ◌+◌, ◌≤◌, ◌<◌}
use mathlib.Core.Path.{◌≡◌, refl, sym, ap, ◌∙◌}
use mathlib.Core.Bool.{Bool, true, false, not, cond}
use mathlib.Core.Logic.{◌⊎◌, inl, inr}
use mathlib.Core.List.{List}
use native.Mathlib.Omega.{arith}
use borrow.Author.Tests.{ltb-true, leb-true, eqb-true, eqb-false, lt-ltb, le-leb}
use lib.Dec.{eqb, ltb}
use lib.ListN.{length, take, set, get_or, replicate, length-set}
use lib.Seq.{get_or-set_same, get_or-set_other}
use Rattle.records.specs.declared.TaskNo.{TaskNo}
use Rattle.executive.specs.declared.State.{State}
use Rattle.executive.specs.declared.Task.{Task}
use Rattle.executive.specs.Lists.{one, sum_of, ◌and◌}
use Rattle.executive.specs.Places.{no_task, task_at}
use Rattle.executive.specs.States.{await_start, await_end, state_kind, is_of}
use Rattle.executive.specs.WellFormed.{runs_of}
use Rattle.executive.specs.Check.{is_task}
use Rattle.executive.proofs.Assured.{and_true, true_and, not-of, of-not, not-zero}
use Rattle.mender.specs.Links.{Runs}
use Rattle.mender.specs.Passes.{named_at, marked, stands, unlinked, run_turn, none_named, linked_runs}
use Rattle.mender.proofs.Turns.{each_keeps}
use Rattle.mender.proofs.Sums.{sum-next, sum-next-set}

-- ---- who is named, once one more is
pub named-same : (bs : List Bool) (w : ℕ) → 0 < w → w ≤ length bs → named_at (marked bs w) w ≡ true
unfolding named_at marked
named-same bs zero h l = absurd (omega arith)
named-same bs (suc i) h l = get_or-set_same bs i true false (omega arith)

named_other : (bs : List Bool) (w v : ℕ) → eqb v w ≡ false → named_at (marked bs w) v ≡ named_at bs v
unfolding named_at marked
named_other bs zero v e = refl
named_other bs (suc i) zero e = refl
named_other bs (suc i) (suc j) e = get_or-set_other bs i j true false (λ q. eqb-false (suc j) (suc i) e (omega arith))

pub marked-length : (bs : List Bool) (w : ℕ) → length (marked bs w) ≡ length bs
unfolding marked
marked-length bs zero = refl
marked-length bs (suc i) = length-set bs i true

-- counted with a test of the number: one that passes counts once more, one that does not counts for nothing
module _ (f : ℕ → Bool) (bs : List Bool) (w : ℕ) (v : ℕ) where
  pub mark-same : 0 < w → w ≤ length bs → named_at bs w ≡ false → f w ≡ true
      → one (named_at bs v and f v) + one (eqb v w) ≡ one (named_at (marked bs w) v and f v)
  mark-same h l n p = go (eqb v w) refl
    where
      go : (b : Bool) → eqb v w ≡ b → one (named_at bs v and f v) + one b ≡ one (named_at (marked bs w) v and f v)
      go true e = rw (eqb-true v w e, named-same bs w h l, n, p) refl
      go false e = rw (named_other bs w v e) (omega arith)

  pub mark-other : f w ≡ false → one (named_at bs v and f v) ≡ one (named_at (marked bs w) v and f v)
  mark-other p = go (eqb v w) refl
    where
      none : (b : Bool) → one (b and false) ≡ 0
      none true = refl
      none false = refl

      go : (b : Bool) → eqb v w ≡ b → one (named_at bs v and f v) ≡ one (named_at (marked bs w) v and f v)
      go true e = rw (eqb-true v w e, p) (none (named_at bs w) ∙ sym (none (named_at (marked bs w) w)))
      go false e = rw (named_other bs w v e) refl

-- ---- a link that stands
pub record Stands (n : ℕ) (ts : List Task) (bs : List Bool) (kind j w : ℕ) : Type 0 where
  pub low : 0 < w
  pub high : w ≤ n
  pub other : eqb j w ≡ false
  pub waits : is_of kind (task_at ts w).state ≡ true
  pub fresh : named_at bs w ≡ false

module _ (n : ℕ) (ts : List Task) (bs : List Bool) (kind j : ℕ) (w : TaskNo) where
  pub stands-is : stands n ts bs kind j w ≡ true → Stands n ts bs kind j w.0
  unfolding stands
  stands-is h =
      let a = and_true (is_task n w) _ h in
      let b = and_true (ltb 0 w.0) _ a.0 in
      let d = and_true (not (eqb j w.0)) _ a.1 in
      let e = and_true (is_of kind (task_at ts w.0).state) _ d.1 in
      record { low = ltb-true _ _ b.0; high = leb-true _ _ b.1; other = not-of _ d.0; waits = e.0; fresh = not-of _ e.1 }

  pub is-stands : Stands n ts bs kind j w.0 → stands n ts bs kind j w ≡ true
  unfolding stands
  is-stands s =
      true_and (is_task n w) _ (true_and (ltb 0 w.0) _ (lt-ltb _ _ s.low) (le-leb _ _ s.high))
      (true_and (not (eqb j w.0)) _ (of-not _ s.other)
      (true_and (is_of kind (task_at ts w.0).state) _ s.waits (of-not _ s.fresh)))

-- who waits for a start does not wait for an end, nor the other way round
pub start-not-end : (s : State) → is_of await_start s ≡ true → is_of await_end s ≡ false
start-not-end s e = rw (← (eqb-true await_start (state_kind s) e)) refl

pub end_not_start : (s : State) → is_of await_end s ≡ true → is_of await_start s ≡ false
end_not_start s e = rw (← (eqb-true await_end (state_kind s) e)) refl

-- ---- the runs: the first i are passed
pub record Running (ts : List Task) (i : ℕ) (r : Runs) : Type 0 where
  pub tasks : length r.tasks ≡ 16
  pub named : length r.named ≡ 16
  pub either : (j : ℕ) → (get_or r.tasks j no_task ≡ get_or ts j no_task) ⊎ (get_or r.tasks j no_task ≡ unlinked (get_or ts j no_task))
  pub runs : (w : ℕ) → 0 < w → runs_of w (take i r.tasks) ≡ one (named_at r.named w and is_of await_end (task_at ts w).state)
  pub none : (w : ℕ) → one (named_at r.named w and is_of await_start (task_at ts w).state) ≡ 0
  pub apart : (j : ℕ) → j < i → eqb (suc j) (get_or r.tasks j no_task).end_waiter.0 ≡ false

-- entries that are the same, or the same without the link, are in the same state
pub alike : (e f : Task) → (e ≡ f) ⊎ (e ≡ unlinked f) → unlinked e ≡ unlinked f
alike e f (inl p) = ap unlinked p
alike e f (inr p) = ap unlinked p

pub same-state : (us ts : List Task) → ((j : ℕ) → (get_or us j no_task ≡ get_or ts j no_task) ⊎ (get_or us j no_task ≡ unlinked (get_or ts j no_task)))
    → (w : ℕ) → (task_at us w).state ≡ (task_at ts w).state
unfolding task_at
same-state us ts h zero = refl
same-state us ts h (suc i) = ap (λ (e : Task). e.state) (alike (get_or us i no_task) (get_or ts i no_task) (h i))

module _ (n : ℕ) (hn : n ≤ 16) (ts : List Task) where
  pub run-turn : (i : ℕ) (r : Runs) → i < 16 → Running ts i r → Running ts (i + 1) (run_turn n r i)
  unfolding run_turn
  run-turn i r h p = go (stands n r.tasks r.named await_end (suc i) e.end_waiter) refl
    where
      e : Task
      e = get_or r.tasks i no_task

      w : ℕ
      w = e.end_waiter.0

      l : i < length r.tasks
      l = omega (arith, p.tasks)

      go : (b : Bool) → stands n r.tasks r.named await_end (suc i) e.end_waiter ≡ b
          → Running ts (i + 1) (cond b (record { tasks = r.tasks; named = marked r.named w }) (record { tasks = set r.tasks i (unlinked e); named = r.named }))
      go true q =
          let s = stands-is n r.tasks r.named await_end (suc i) e.end_waiter q in
          let m : length r.named ≡ 16 = p.named in
          let ends : is_of await_end (task_at ts w).state ≡ true = rw (same-state r.tasks ts p.either w) at s.waits in
          record {
            tasks = p.tasks;
            named = marked-length r.named w ∙ m;
            either = p.either;
            runs = λ v g.
                sum-next (λ (x : Task). one (eqb v x.end_waiter.0)) no_task r.tasks i l
                ∙ ap (λ (x : ℕ). x + one (eqb v w)) (p.runs v g)
                ∙ mark-same (λ k. is_of await_end (task_at ts k).state) r.named w v s.low (omega (arith, s.high)) s.fresh ends;
            none = λ v.
                sym (mark-other (λ k. is_of await_start (task_at ts k).state) r.named w v (end_not_start (task_at ts w).state ends)) ∙ p.none v;
            apart = λ j g. by j g (eqb j i) refl;
          }
        where
          by : (j : ℕ) → j < i + 1 → (b : Bool) → eqb j i ≡ b → eqb (suc j) (get_or r.tasks j no_task).end_waiter.0 ≡ false
          by j g true f = rw (eqb-true j i f) (stands-is n r.tasks r.named await_end (suc i) e.end_waiter q).other
          by j g false f = p.apart j (let z = eqb-false j i f in omega arith)
      go false q =
          record {
            tasks = length-set r.tasks i (unlinked e) ∙ p.tasks;
            named = p.named;
            either = λ j. by-either j (eqb j i) refl;
            runs = λ v g.
                sum-next-set (λ (x : Task). one (eqb v x.end_waiter.0)) r.tasks i (unlinked e) l
                ∙ (let z : one (eqb v 0) ≡ 0 = ap one (not-zero v g) in omega (arith, p.runs v g));
            none = p.none;
            apart = λ j g. by j g (eqb j i) refl;
          }
        where
          by-either : (j : ℕ) (b : Bool) → eqb j i ≡ b
              → (get_or (set r.tasks i (unlinked e)) j no_task ≡ get_or ts j no_task) ⊎ (get_or (set r.tasks i (unlinked e)) j no_task ≡ unlinked (get_or ts j no_task))
          by-either j true f =
              rw (eqb-true j i f) (inr (get_or-set_same r.tasks i (unlinked e) no_task l ∙ alike e (get_or ts i no_task) (p.either i)))
          by-either j false f = rw (get_or-set_other r.tasks i j (unlinked e) no_task (eqb-false j i f)) (p.either j)

          by : (j : ℕ) → j < i + 1 → (b : Bool) → eqb j i ≡ b → eqb (suc j) (get_or (set r.tasks i (unlinked e)) j no_task).end_waiter.0 ≡ false
          by j g true f = rw (eqb-true j i f, get_or-set_same r.tasks i (unlinked e) no_task l) (not-zero (suc i) (omega arith))
          by j g false f = rw (get_or-set_other r.tasks i j (unlinked e) no_task (eqb-false j i f)) (p.apart j (let z = eqb-false j i f in omega arith))

-- before the first
no_names : (n w : ℕ) → named_at (replicate n false) w ≡ false
unfolding named_at
no_names n zero = refl
no_names zero (suc i) = refl
no_names (suc n) (suc zero) = refl
no_names (suc n) (suc (suc i)) = no_names n (suc i)

pub runs-begin : (ts : List Task) → length ts ≡ 16 → Running ts 0 (record { tasks = ts; named = none_named })
unfolding sum_of
runs-begin ts l = record {
  tasks = l;
  named = refl;
  either = λ j. inl refl;
  runs = λ w g. rw (no_names 16 w) refl;
  none = λ w. rw (no_names 16 w) refl;
  apart = λ j h. absurd (omega arith);
}

pub linked_runs_lem : (n : ℕ) → n ≤ 16 → (ts : List Task) → length ts ≡ 16 → Running ts 16 (linked_runs n ts)
unfolding linked_runs
linked_runs_lem n hn ts l =
    each_keeps (run_turn n) (λ i r. Running ts i r) 16 0 (record { tasks = ts; named = none_named }) (runs-begin ts l) (λ i r g h p. run-turn n hn ts i r (omega arith) p)
