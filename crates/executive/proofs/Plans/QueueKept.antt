-- The queue's rule is kept by every plan whose caller leaves to a state that is not ready, and whose joining tasks were
-- not ready and are.
use mathlib.Core.Path.{◌≡◌, refl, ap, ◌∙◌}
use mathlib.Core.Bool.{Bool, true, false, cond}
use mathlib.Core.List.{List, ◌∷◌}
use Prim.Native.Nat.{ℕ, zero, suc, ◌+◌, ◌≤◌}
use native.Mathlib.Omega.{arith}
use lib.Dec.{leb, lit≤, eqb, eqb→eq}
use lib.ListN.{length, get_or-eq_default}
use Rattle.records.specs.declared.TaskNo.{TaskNo}
use Rattle.executive.specs.declared.State.{State}
use Rattle.executive.specs.declared.State.TheVariants.{Dormant}
use Rattle.executive.specs.declared.Task.{Task}
use Rattle.executive.specs.declared.Table.{Table}
use Rattle.executive.specs.Lists.{one}
use Rattle.executive.specs.Queue.{count}
use Rattle.executive.specs.Places.{Names, no_task, task_at, put_at}
use Rattle.executive.specs.Table.{line, items, enter_at, Join, entered, join}
use Rattle.executive.specs.States.{dormant, ready, await_start, await_end, await_sub, await_message, state_kind, is_of, is, is_dormant, is_ready}
use Rattle.executive.specs.WellFormed.{Line}
use Rattle.executive.proofs.Lists.Tests.{Le, le_yes, le-no, leb-is, So-of_true, eqb_self}
use Rattle.executive.proofs.queue.Law.{insert-count, insert_desc}
use Rattle.executive.proofs.Plans.Moves.{items_put, enter-items, join-line}
use Rattle.executive.proofs.places.TaskAt.{put-at}
use Rattle.executive.proofs.states.Laws.{counted, of-kind, dormant-named}

-- a task that is busy is one of the list
pub busy-names : (ts : List Task) (k : ℕ) → is dormant (task_at ts k).state ≡ 0 → Names k ts
unfolding task_at
busy-names ts zero h = absurd (omega arith)
busy-names ts (suc i) h = (omega arith, go (leb (suc i) (length ts)) (leb-is (suc i) (length ts)))
  where
    go : (b : Bool) → Le (suc i) (length ts) b → suc i ≤ length ts
    go true (le_yes g) = g
    go false (le-no g) = absurd (omega (arith, rw (get_or-eq_default ts no_task {n = i} (omega arith)) at h))

-- a state is of one kind
pub not-both : (s : State) → counted (state_kind s) ≤ 1
not-both s =
    by ready (lit≤ tt)
    (λ a. by dormant (lit≤ tt) (λ b. by await_start (lit≤ tt) (λ c. by await_end (lit≤ tt) (λ d. by await_sub (lit≤ tt) (λ e. by await_message (lit≤ tt) (λ f. omega (arith, ap one a, ap one b, ap one c, ap one d, ap one e, ap one f)))))))
  where
    by : (n : ℕ) → counted n ≤ 1 → (is_of n s ≡ false → counted (state_kind s) ≤ 1) → counted (state_kind s) ≤ 1
    by n h other = go (is_of n s) refl
      where
        go : (b : Bool) → is_of n s ≡ b → counted (state_kind s) ≤ 1
        go true e = of-kind (λ (k : ℕ). counted k ≤ 1) n h s e
        go false e = other e

pub one-le : (b : Bool) → one b ≤ 1
one-le true = lit≤ tt
one-le false = lit≤ tt

pub is_le : (n : ℕ) (s : State) → is n s ≤ 1
is_le n s = one-le (is_of n s)

-- ---- a line: the ready queue, and any other line of waiting tasks. One joins it, the head leaves it.
module _ (f : State → Bool) (ts : List Task) (jn : TaskNo) (e : Task) where
  abbrev j : ℕ
  j = jn.0

  pub line_in : (r : List TaskNo) → Line f ts r → Names j ts → one (f (task_at ts j).state) ≡ 0 → one (f e.state) ≡ 1 → Line f (put_at ts j e) (enter_at (put_at ts j e) jn r)
  line_in r q m x y =
      let v = enter-items ts jn e r m (q.exact j ∙ x) in
      record {
        exact = λ k. rw (v, insert-count (record { task = j; prio = e.priority }) (items ts r) k, put-at (λ (e : Task). one (f e.state)) ts j k e m) (go k (eqb k j) refl);
        sorted = rw v (insert_desc (record { task = j; prio = e.priority }) (items ts r) q.sorted);
      }
    where
      go : (k : ℕ) (b : Bool) → eqb k j ≡ b → one b + count k (items ts r) ≡ cond b (one (f e.state)) (one (f (task_at ts k).state))
      go k true g = rw (eqb→eq k j (So-of_true (eqb k j) g)) (omega (arith, q.exact j))
      go k false g = omega (arith, q.exact k)

-- one who does not stand in it changes, and does not come to belong there
pub line_else : (f : State → Bool) (ts : List Task) (j : ℕ) (e : Task) (r : List TaskNo) → Line f ts r → Names j ts → one (f (task_at ts j).state) ≡ 0 → one (f e.state) ≡ 0 → Line f (put_at ts j e) r
line_else f ts j e r q n x y =
    let v : items (put_at ts j e) r ≡ items ts r = items_put ts j e r (q.exact j ∙ x) in
    record {
      exact = λ k. rw (v, put-at (λ (e : Task). one (f e.state)) ts j k e n) (go k (eqb k j) refl);
      sorted = rw v q.sorted;
    }
  where
    go : (k : ℕ) (b : Bool) → eqb k j ≡ b → count k (items ts r) ≡ cond b (one (f e.state)) (one (f (task_at ts k).state))
    go k true g = rw (eqb→eq k j (So-of_true (eqb k j) g)) (omega (arith, q.exact j))
    go k false g = q.exact k

-- the head of a line
pub record Head (f : State → Bool) (ts : List Task) (c : TaskNo) (r : List TaskNo) : Type 0 where
  pub is-of : one (f (task_at ts c.0).state) ≡ 1
  pub names : Names c.0 ts
  pub alone : count c.0 (items ts r) ≡ 0

-- no dormant task stands in the line
pub head-is : (f : State → Bool) (ts : List Task) (c : TaskNo) (r : List TaskNo) → f Dormant ≡ false → Line f ts (c ∷ r) → Head f ts c r
unfolding items count
head-is f ts c r z q =
    let e : one (eqb c.0 c.0) + count c.0 (items ts r) ≡ one (f (task_at ts c.0).state) = q.exact c.0 in
    let e' : 1 + count c.0 (items ts r) ≡ one (f (task_at ts c.0).state) = rw (eqb_self c.0) at e in
    let a : one (f (task_at ts c.0).state) ≤ 1 = one-le (f (task_at ts c.0).state) in
    record { is-of = omega arith; names = busy-names ts c.0 (busy (is_dormant (task_at ts c.0).state) refl); alone = omega arith }
  where
    busy : (b : Bool) → is_dormant (task_at ts c.0).state ≡ b → one b ≡ 0
    busy false g = refl
    busy true g = absurd (omega (arith, q.exact c.0, ap one (eqb_self c.0), ap (λ (s : State). one (f s)) (dormant-named (task_at ts c.0).state (ap one g)), ap one z))

pub line-out : (f : State → Bool) (ts : List Task) (c : TaskNo) (e : Task) (r : List TaskNo) → f Dormant ≡ false → Line f ts (c ∷ r) → one (f e.state) ≡ 0 → Line f (put_at ts c.0 e) r
unfolding items count
line-out f ts c e r nz q z =
    let h : Head f ts c r = head-is f ts c r nz q in
    let v : items (put_at ts c.0 e) r ≡ items ts r = items_put ts c.0 e r h.alone in
    record {
      exact = λ k. rw (v, put-at (λ (e : Task). one (f e.state)) ts c.0 k e h.names) (go k (eqb k c.0) refl (q.exact k));
      sorted = rw v q.sorted.1;
    }
  where
    go : (k : ℕ) (b : Bool) → eqb k c.0 ≡ b → one b + count k (items ts r) ≡ one (f (task_at ts k).state)
        → count k (items ts r) ≡ cond b (one (f e.state)) (one (f (task_at ts k).state))
    go k true g x = omega (arith, one-le (f (task_at ts k).state))
    go k false g x = omega arith

-- ---- the ready queue
pub record Joins (j : Join) (ts : List Task) : Type 0 where
  pub names : Names j.who.0 ts
  pub before : is ready (task_at ts j.who.0).state ≡ 0
  pub after : is ready (j.change (task_at ts j.who.0)).state ≡ 1

pub join_kept : (j : Join) (t : Table) → Line is_ready t.tasks (line t) → Joins j t.tasks → Line is_ready (join j t).tasks (line (join j t))
unfolding join entered
join_kept j t q h = rw (join-line j t) (line_in is_ready t.tasks j.who (j.change (task_at t.tasks j.who.0)) (line t) q h.names h.before h.after)
