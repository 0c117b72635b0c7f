-- Demand 2: the head of a well-formed table's queue is the first of the ready tasks with highest priority, and there is
-- none exactly if no task is ready.
use mathlib.Core.Path.{◌≡◌, refl, sym, ap, ◌∙◌}
use mathlib.Core.Logic.{◌↔◌, ◌≢◌}
use mathlib.Core.Bool.{Bool, true, false, cond}
use mathlib.Core.List.{List, [], ◌∷◌}
use Prim.Native.Nat.{ℕ, ◌+◌, ◌≤◌, ◌<◌}
use native.Mathlib.Omega.{arith}
use borrow.Author.Tests.{eqb-true, ne_eqb}
use lib.Dec.{eqb}
use lib.ListN.{length}
use Rattle.records.specs.declared.TaskNo.{TaskNo}
use Rattle.executive.specs.declared.State.{State}
use Rattle.executive.specs.declared.State.TheVariants.{Dormant, Ready}
use Rattle.executive.specs.declared.Task.{Task}
use Rattle.executive.specs.declared.Table.{Table}
use Rattle.executive.specs.Lists.{one}
use Rattle.executive.specs.Queue.{count, ahead, prio_in, active_of}
use Rattle.executive.specs.Table.{line, item_of, items, head_of}
use Rattle.executive.specs.Places.{task_at}
use Rattle.executive.specs.States.{ready, is_of, is, is_ready}
use Rattle.executive.specs.Plans.{caller}
use Rattle.executive.specs.WellFormed.{Line}
use Rattle.executive.specs.Promises.Demands.{Dispatched}
use Rattle.executive.proofs.queue.Law.{head-highest, head_first}
use Rattle.executive.proofs.queue.ArraysAreLists.{line-length}
use Rattle.executive.proofs.Plans.WorkingForm.{WellFormedByPart}
use Rattle.executive.proofs.states.Laws.{ready-named, ready-kind}
use Rattle.executive.proofs.Plans.QueueKept.{Head, head-is}

-- the priority at which a task stands is the one in its entry
pub prio-is : (ts : List Task) (r : List TaskNo) (k : ℕ) → 0 < count k (items ts r) → prio_in k (items ts r) ≡ (task_at ts k).priority
unfolding items count prio_in
prio-is ts [] k h = absurd (omega arith)
prio-is ts (j ∷ r) k h = go (eqb k j.0) refl h (prio-is ts r k)
  where
    go : (b : Bool) → eqb k j.0 ≡ b → 0 < one b + count k (items ts r) → (0 < count k (items ts r) → prio_in k (items ts r) ≡ (task_at ts k).priority)
        → cond b (task_at ts j.0).priority (prio_in k (items ts r)) ≡ (task_at ts k).priority
    go true e h ih = rw (eqb-true k j.0 e)
    go false e h ih = ih (omega arith)

-- what is said of a line's numbers r, with the tasks ts: of the ready queue, and of any line of those who pass a test
module _ (f : State → Bool) (ts : List Task) where
  pub record Picks (r : List TaskNo) (k : ℕ) : Type 0 where
    pub head : active_of (items ts r) ≡ k
    pub passes : 0 < k → one (f (task_at ts k).state) ≡ 1
    pub highest : (j : ℕ) → one (f (task_at ts j).state) ≡ 1 → (task_at ts j).priority ≤ (task_at ts k).priority
    pub first : (j : ℕ) → one (f (task_at ts j).state) ≡ 1 → j ≢ k → ahead k (items ts r) < ahead j (items ts r)
    pub idle : (k ≡ 0) ↔ ((j : ℕ) → one (f (task_at ts j).state) ≡ 0)
    pub empty : (k ≡ 0) ↔ (length r ≡ 0)

  pub picks : f Dormant ≡ false → (r : List TaskNo) → Line f ts r → Picks r (head_of r).0
  unfolding items count active_of
  picks z [] q = record {
    head = refl;
    passes = λ h. absurd (omega arith);
    highest = λ j h. absurd (omega (arith, q.exact j));
    first = λ j h n. absurd (omega (arith, q.exact j));
    idle = (λ e j. sym (q.exact j), λ f. refl);
    empty = (λ e. refl, λ e. refl);
  }
  picks z (c ∷ r) q =
      let h : Head f ts c r = head-is f ts c r z q in
      record {
        head = refl;
        passes = λ _. h.is-of;
        highest = λ j e.
            let g : 0 < count j (items ts (c ∷ r)) = omega (arith, q.exact j) in
            omega (arith, head-highest (item_of ts c) (items ts r) j q.sorted g, prio-is ts (c ∷ r) j g);
        first = λ j e n. head_first (item_of ts c) (items ts r) j (ne_eqb j c.0 n);
        idle = (λ e. absurd (omega (arith, h.names.0)), λ f. absurd (omega (arith, f c.0, h.is-of)));
        empty = (λ e. absurd (omega (arith, h.names.0)), λ e. absurd (omega arith));
      }

unready : (s : State) → s ≢ Ready → is ready s ≡ 0
unready s n = go (is_of ready s) refl
  where
    go : (b : Bool) → is_of ready s ≡ b → one b ≡ 0
    go true e = absurd (n (ready-named s (ap one e)))
    go false e = refl

pub dispatches : (t : Table) → WellFormedByPart t → Dispatched t (caller t).0
dispatches t w =
    let p : Picks is_ready t.tasks (line t) (caller t).0 = picks is_ready t.tasks refl (line t) w.queue in
    let n : length (line t) ≡ t.ready = line-length t w.fit in
    record {
      head = p.head;
      chosen = λ h. record {
        ready = ready-named _ (p.passes h);
        highest = λ j e. p.highest j (ready-kind _ e);
        first = λ j e _ d. p.first j (ready-kind _ e) d;
      };
      idle = (λ e j r. absurd (omega (arith, p.idle.0 e j, ready-kind _ r)), λ f. p.idle.1 (λ j. unready (task_at t.tasks j).state (f j)));
      empty = (λ e. sym n ∙ p.empty.0 e, λ e. p.empty.1 (n ∙ e));
    }
