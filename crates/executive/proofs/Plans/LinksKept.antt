-- The rules on links, over the tasks and the pool, with at most one task w that waits for an end and one task s that
-- waits for a start and that
-- no link names yet (or any longer): the orphans. Task d may be dormant with requests queued. A number 0 is nobody.
use mathlib.Core.Path.{◌≡◌, refl, ap}
use mathlib.Core.Bool.{Bool, true, false, cond}
use mathlib.Core.List.{List}
use Prim.Native.Nat.{ℕ, ◌+◌, ◌<◌}
use native.Mathlib.Omega.{arith}
use lib.Dec.{eqb, eqb→eq}
use Rattle.executive.specs.declared.Task.{Task}
use Rattle.executive.specs.declared.Request.{Request}
use Rattle.executive.specs.Lists.{one}
use Rattle.executive.specs.Places.{Names, task_at, put_at}
use Rattle.executive.specs.States.{dormant, await_start, await_end, is}
use Rattle.executive.specs.WellFormed.{starts_of, ends_of, runs_of, targets_of, waits_for_itself, two_waiters}
use Rattle.executive.proofs.Plans.WorkingForm.{LinksOk}
use Rattle.executive.proofs.Lists.Tests.{So-of_true, not-zero}
use Rattle.executive.proofs.places.TaskAt.{at_same, at_other, sum_put, put-at}

-- n where the test passes, else 0
abbrev pub count_if : Bool → ℕ → ℕ
count_if b n = cond b n 0

pub count_if-zero : (b : Bool) (n : ℕ) → n ≡ 0 → count_if b n ≡ 0
count_if-zero true n h = h
count_if-zero false n h = refl

pub count_if-one : (b : Bool) (n : ℕ) → n ≡ 1 → count_if b n ≡ one b
count_if-one true n h = h
count_if-one false n h = refl

-- what a reading of a task says after a store, as a sum: what was there goes, what is stored comes
pub put_add : (f : Task → ℕ) (ts : List Task) (j k : ℕ) (e : Task) → Names j ts
    → f (task_at (put_at ts j e) k) + count_if (eqb k j) (f (task_at ts j)) ≡ f (task_at ts k) + count_if (eqb k j) (f e)
put_add f ts j k e n = rw (put-at f ts j k e n) (go (eqb k j) refl)
  where
    go : (b : Bool) → eqb k j ≡ b → cond b (f e) (f (task_at ts k)) + count_if b (f (task_at ts j)) ≡ f (task_at ts k) + count_if b (f e)
    go true h = rw (eqb→eq k j (So-of_true (eqb k j) h)) (omega arith)
    go false h = refl

-- a fact of each task after a store: of the one stored, and of the others as they were
pub put_all : (P : ℕ → Task → Type 0) (ts : List Task) (j : ℕ) (e : Task) → Names j ts → P j e → (k : ℕ) → (eqb k j ≡ false → P k (task_at ts k)) → P k (task_at (put_at ts j e) k)
put_all P ts j e n y k x = go (eqb k j) refl
  where
    go : (b : Bool) → eqb k j ≡ b → P k (task_at (put_at ts j e) k)
    go true h = rw (eqb→eq k j (So-of_true (eqb k j) h), at_same ts j e n) y
    go false h = rw (at_other ts j k e h) (x h)

pub record LinksUpTo (ts : List Task) (p : List Request) (w s d : ℕ) : Type 0 where
  pub starts : (k : ℕ) → 0 < k → starts_of k p + one (eqb k s) ≡ is await_start (task_at ts k).state
  pub ends : (k : ℕ) → 0 < k → ends_of k p + runs_of k ts + one (eqb k w) ≡ is await_end (task_at ts k).state
  pub others : waits_for_itself p ≡ 0
  pub apart : (k : ℕ) → 0 < k → eqb k (task_at ts k).end_waiter.0 ≡ false
  pub single : two_waiters p ≡ 0
  pub named : targets_of 0 p ≡ 0
  pub busy : (k : ℕ) → 0 < k → eqb k d ≡ false → is dormant (task_at ts k).state ≡ 1 → targets_of k p ≡ 0
  pub quiet : (k : ℕ) → is dormant (task_at ts k).state ≡ 1 → (task_at ts k).end_waiter.0 ≡ 0

pub links-up : {ts : List Task} {p : List Request} → LinksOk ts p → LinksUpTo ts p 0 0 0
links-up l = record {
  starts = λ k h. omega (arith, l.starts k h, ap one (not-zero k h));
  ends = λ k h. omega (arith, l.ends k h, ap one (not-zero k h));
  others = l.others;
  apart = l.apart;
  single = l.single;
  named = l.named;
  busy = λ k h _. l.busy k h;
  quiet = l.quiet;
}

pub up-links : {ts : List Task} {p : List Request} → LinksUpTo ts p 0 0 0 → LinksOk ts p
up-links l = record {
  starts = λ k h. omega (arith, l.starts k h, ap one (not-zero k h));
  ends = λ k h. omega (arith, l.ends k h, ap one (not-zero k h));
  others = l.others;
  apart = l.apart;
  single = l.single;
  named = l.named;
  busy = λ k h. l.busy k h (not-zero k h);
  quiet = l.quiet;
}

-- ---- one entry is stored: the orphans before and after
pub record PutChanges (ts : List Task) (j : ℕ) (e : Task) (w s d w' s' d' : ℕ) : Type 0 where
  pub names : Names j ts
  pub starts : (k : ℕ) → 0 < k → one (eqb k s') + count_if (eqb k j) (is await_start (task_at ts j).state) ≡ one (eqb k s) + count_if (eqb k j) (is await_start e.state)
  pub ends : (k : ℕ) → 0 < k → one (eqb k w') + one (eqb k e.end_waiter.0) + count_if (eqb k j) (is await_end (task_at ts j).state)
      ≡ one (eqb k w) + one (eqb k (task_at ts j).end_waiter.0) + count_if (eqb k j) (is await_end e.state)
  pub apart : eqb j e.end_waiter.0 ≡ false
  pub quiet : is dormant e.state ≡ 1 → e.end_waiter.0 ≡ 0
  pub busy-own : eqb j d' ≡ false → is dormant e.state ≡ 0
  pub busy_else : (k : ℕ) → 0 < k → eqb k j ≡ false → eqb k d' ≡ false → eqb k d ≡ false

pub links_put : (ts : List Task) (p : List Request) (j : ℕ) (e : Task) (w s d w' s' d' : ℕ) → PutChanges ts j e w s d w' s' d' → LinksUpTo ts p w s d → LinksUpTo (put_at ts j e) p w' s' d'
links_put ts p j e w s d w' s' d' u l = record {
  starts = λ k h. omega (arith, l.starts k h, u.starts k h, put_add (λ (e : Task). is await_start e.state) ts j k e u.names);
  ends = λ k h. omega (arith, l.ends k h, u.ends k h, put_add (λ (e : Task). is await_end e.state) ts j k e u.names, sum_put (λ (e : Task). one (eqb k e.end_waiter.0)) ts j e u.names);
  others = l.others;
  apart = λ k. put_all (λ (k : ℕ) (e : Task). 0 < k → eqb k e.end_waiter.0 ≡ false) ts j e u.names (λ _. u.apart) k (λ _. l.apart k);
  single = l.single;
  named = l.named;
  busy = λ k h. put_all (λ (k : ℕ) (e : Task). eqb k d' ≡ false → is dormant e.state ≡ 1 → targets_of k p ≡ 0) ts j e u.names
      (λ g x. absurd (omega (arith, u.busy-own g))) k (λ o g x. l.busy k h (u.busy_else k h o g) x);
  quiet = λ k. put_all (λ (k : ℕ) (e : Task). is dormant e.state ≡ 1 → e.end_waiter.0 ≡ 0) ts j e u.names u.quiet k (λ _. l.quiet k);
}
