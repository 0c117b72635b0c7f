-- What the bytes of a task's entry say of it without its being loaded: its state by the byte of its kind and the byte of the
-- number that it waits for, its priority, its waiter.
use Prim.Native.Nat.{ℕ, ◌+◌, ◌*◌, ◌≤◌, ◌<◌}
use mathlib.Core.Path.{◌≡◌, refl, sym, ap, ◌∙◌}
use mathlib.Core.Bool.{Bool, true, false, ◌&&◌}
use mathlib.Core.List.{List}
use native.Mathlib.Omega.{arith}
use borrow.Author.Tests.{eqb-true, eq-eqb, ne_eqb, leb-true, leb-false}
use lib.Dec.{eqb, leb}
use lib.ListN.{get_or}
use Rattle.executive.specs.declared.Millis.{Millis}
use Rattle.executive.specs.declared.State.{State}
use Rattle.executive.specs.declared.Task.{Task}
use Rattle.executive.specs.Places.{no_task, task_at, entry_place}
use Rattle.executive.specs.States.{state_kind, state_of, is_of, is_dormant, waits_for, takes, takes_from}
use Rattle.executive.proofs.Assured.{at_next, at-no-place}
use Rattle.image.specs.Image.{task_from, state_in}
use Rattle.image.specs.Sound.{tasks_in}
use Rattle.image.proofs.Alike.{decide}
use Rattle.image.proofs.Loaded.{tasks-size, task-there, entry-there, kind-some, no_kind_lem}

-- ---- the state of a kind, a time, a mask and a number
module _ (t : Millis) (m a : ℕ) where
  -- of any kind but that of a byte that is none
  pub is-kind : (n k : ℕ) → n ≤ 9 → (n ≡ 8 → ⊥) → is_of n (state_in k t m a) ≡ eqb n k
  is-kind n k h d =
      decide (leb k 9)
      (λ e. ap (eqb n) (kind-some k t m a (leb-true k 9 e)))
      (λ e.
      let l = leb-false k 9 e in
      ap (λ (x : State). eqb n (state_kind x)) (no_kind_lem k t m a l) ∙ ne_eqb n 8 d ∙ sym (ne_eqb n k (λ z. omega (arith, l))))

  -- of a wait for a subprogram
  waits-sub : (n k : ℕ) → 8 ≡ k → eqb n a ≡ waits_for n (state_in k t m a)
  unfolding state_in state_of
  waits-sub n k q = let e : k ≡ 8 = sym q in rw e refl

  takes-from : (c k : ℕ) → takes c (state_in k t m a) ≡ (eqb 9 k && takes_from a c)
  unfolding state_in state_of
  takes-from c k =
      decide (eqb 9 k)
      (λ e. let q : k ≡ 9 = sym (eqb-true 9 k e) in rw q refl)
      (λ e. rw (is-kind 9 k (omega arith) (λ z. omega arith), e) refl)

module _ (s : List ℕ) where
  -- the entry of the task after number i, and that of number n at place k
  next-there : (i : ℕ) → i < 16 → task_from s i ≡ task_at (tasks_in s) (i + 1)
  next-there i h = task-there s i h ∙ sym (at_next (tasks_in s) i)

  -- ---- by number: whether the task is dormant, whether it takes a message
  module _ (n k : ℕ) (e : k ≡ entry_place n) where
    pub idle-there : k < 16 → eqb 0 (get_or s (k * 26 + 1) 0) ≡ is_dormant (task_at (tasks_in s) n).state
    idle-there h = sym (is-kind _ _ _ 0 (get_or s (k * 26 + 1) 0) (omega arith) (λ z. omega arith)) ∙ ap (λ (x : Task). is_dormant x.state) (entry-there s n k e h)

    pub idle-none : 15 < k → true ≡ is_dormant (task_at (tasks_in s) n).state
    idle-none h = sym (ap (λ (x : Task). is_dormant x.state) (at-no-place (tasks_in s) (tasks-size s) n k e h))

    module _ (c : ℕ) where
      taken-there : k < 16 → (eqb 9 (get_or s (k * 26 + 1) 0) && takes_from (get_or s (898 + k) 0) c) ≡ takes c (task_at (tasks_in s) n).state
      taken-there h = sym (takes-from _ _ (get_or s (898 + k) 0) c (get_or s (k * 26 + 1) 0)) ∙ ap (λ (x : Task). takes c x.state) (entry-there s n k e h)

      pub taken_none : 15 < k → false ≡ takes c (task_at (tasks_in s) n).state
      taken_none h = sym (ap (λ (x : Task). takes c x.state) (at-no-place (tasks_in s) (tasks-size s) n k e h))

      -- another kind; a wait for any sender; a wait for one
      pub taken_not : k < 16 → (9 ≡ get_or s (k * 26 + 1) 0 → ⊥) → false ≡ takes c (task_at (tasks_in s) n).state
      taken_not h d = sym (ap (λ (b : Bool). b && takes_from (get_or s (898 + k) 0) c) (ne_eqb 9 (get_or s (k * 26 + 1) 0) d)) ∙ taken-there h

      pub taken-any : k < 16 → 9 ≡ get_or s (k * 26 + 1) 0 → get_or s (898 + k) 0 ≡ 0 → true ≡ takes c (task_at (tasks_in s) n).state
      taken-any h q z = sym (rw (eq-eqb 9 (get_or s (k * 26 + 1) 0) q, z) refl) ∙ taken-there h

      pub taken-one : k < 16 → 9 ≡ get_or s (k * 26 + 1) 0 → (get_or s (898 + k) 0 ≡ 0 → ⊥) → eqb (get_or s (898 + k) 0) c ≡ takes c (task_at (tasks_in s) n).state
      taken-one h q z = sym (rw (eq-eqb 9 (get_or s (k * 26 + 1) 0) q, ne_eqb (get_or s (898 + k) 0) 0 z) refl) ∙ taken-there h

  -- ---- by place: the kind of the state of the task after number i; which subprogram it waits for
  module _ (i : ℕ) (h : i < 16) where
    pub kind-there : (n : ℕ) → n ≤ 9 → (n ≡ 8 → ⊥) → eqb n (get_or s (i * 26 + 1) 0) ≡ is_of n (task_at (tasks_in s) (i + 1)).state
    kind-there n l d = sym (is-kind _ _ _ n (get_or s (i * 26 + 1) 0) l d) ∙ ap (λ (x : Task). is_of n x.state) (next-there i h)

    pub sub-there : 8 ≡ get_or s (i * 26 + 1) 0 → (n : ℕ) → eqb n (get_or s (898 + i) 0) ≡ waits_for n (get_or (tasks_in s) i no_task).state
    sub-there q n = waits-sub _ _ (get_or s (898 + i) 0) n (get_or s (i * 26 + 1) 0) q ∙ ap (λ (x : Task). waits_for n x.state) (task-there s i h)
