-- The laws of the path's definitions, one for each case of `task_path`.
use Prim.Native.Nat.{ℕ, zero, suc, ◌≤◌, ◌<◌}
use mathlib.Core.Path.{◌≡◌, refl, sym, ap, ◌∙◌}
use native.Mathlib.Omega.{arith}
use borrow.Author.Tests.{lt-ltb, le-ltb}
use lib.Dec.{eqb, ltb}
use lib.ListN.{take}
use mathlib.Core.Bool.{Bool, true, false, cond}
use Rattle.records.specs.declared.TaskNo.{TaskNo}
use Rattle.executive.specs.declared.Table.{Table}
use Rattle.why.specs.declared.Cause.{Cause}
use Rattle.why.specs.declared.Reasons.{Reasons}
use Rattle.executive.specs.Lists.{next_of}
use Rattle.why.specs.declared.Step.{Step}
use Rattle.why.specs.Causes.{cause_of}
use Rattle.why.specs.declared.Cause.TheVariants as cause
use Rattle.why.specs.declared.On.{On}
use Rattle.why.specs.declared.On.TheVariants as on
use Rattle.why.specs.Paths.{met_at, longer, closed, unmet, by_link, by_cause, task_path, link_path}

module _ (t : Table) (k : TaskNo) (p : Reasons) where
  abbrev met : ℕ
  met = met_at k.0 p.length p.steps

  pub met_is : (i : ℕ) → next_of (λ (s : Step). eqb k.0 s.task.0) 0 (take p.length p.steps) ≡ i → met ≡ i
  unfolding met_at
  met_is i e = e

  -- a task that has been met
  pub path_ring : (left : ℕ) → met < p.length → task_path left t k p ≡ closed p met
  unfolding task_path
  path_ring zero h = rw (lt-ltb met p.length h) refl
  path_ring (suc left) h = rw (lt-ltb met p.length h) refl

  module _ (new : p.length ≤ met) where
    pub path_full : task_path 0 t k p ≡ p
    unfolding task_path
    path_full = rw (le-ltb met p.length new) refl

    abbrev more : Cause → Reasons
    more c = longer p k c

    pub path_more : (left : ℕ) → task_path (suc left) t k p ≡ by_cause (λ l. link_path left t l (more (cause_of t k.0))) (cause_of t k.0) (more (cause_of t k.0))
    unfolding task_path
    path_more left = rw (le-ltb met p.length new) refl

-- the step of a task that has not been met: its cause c, as the code has it, decides, and o is the path with this step
pub path_on : (t : Table) (k : TaskNo) (p : Reasons) → p.length ≤ met t k p → p.length < 16 → {c d : Cause} {o r : Reasons} → c ≡ cause_of t k.0
    → o ≡ longer p k c → c ≡ d → r ≡ by_cause (λ l. link_path (unmet o) t l o) d o → r ≡ task_path (unmet p) t k p
path_on t k p new h {c} {d} {o} {r} e f g i =
    let n : unmet p ≡ suc (unmet o) = omega (arith, ap (λ (x : Reasons). x.length) f) in
    let q : o ≡ longer p k (cause_of t k.0) = f ∙ ap (longer p k) e in
    i ∙ ap (λ (x : Cause). by_cause (λ l. link_path (unmet o) t l o) x o) (sym g ∙ e)
    ∙ ap (λ (x : Reasons). by_cause (λ l. link_path (unmet o) t l x) (cause_of t k.0) x) q
    ∙ sym (path_more t k p new (unmet o)) ∙ ap (λ m. task_path m t k p) (sym n)

-- ---- a path on its way keeps what the steps do not touch
module _ {A : Type 0} (part : Reasons → A) (t : Table) (a : A) where
  keep_link : (go : TaskNo → Reasons) (l : On) → ((j : TaskNo) → part (go j) ≡ a) → part (by_link go t l) ≡ a
  keep_link go (on.Request i) f = f _
  keep_link go (on.Run j) f = f j
  keep_link go (on.Held m) f = f _

  keep-cause : (go : On → Reasons) (c : Cause) (p : Reasons) → ((l : On) → part (go l) ≡ a) → part p ≡ a → part (by_cause go c p) ≡ a
  keep-cause go cause.Dormant p f e = e
  keep-cause go cause.Active p f e = e
  keep-cause go (cause.Ready n) p f e = e
  keep-cause go (cause.Paused m) p f e = e
  keep-cause go (cause.Due m) p f e = e
  keep-cause go (cause.Flags m x) p f e = e
  keep-cause go (cause.Start i j) p f e = f _
  keep-cause go (cause.EndOfRequest i j) p f e = f _
  keep-cause go (cause.EndOfRun j) p f e = f _
  keep-cause go (cause.Subprogram m j) p f e = f _
  keep-cause go (cause.Message s) p f e = e

  either : (b : Bool) (x y : Reasons) → part x ≡ a → part y ≡ a → part (cond b x y) ≡ a
  either true x y e f = e
  either false x y e f = f

  module _ (shut : (p : Reasons) (i : ℕ) → part (closed p i) ≡ part p) (grown : (p : Reasons) (k : TaskNo) (c : Cause) → part (longer p k c) ≡ part p) where
    pub path_keeps : (left : ℕ) (k : TaskNo) (p : Reasons) → part p ≡ a → part (task_path left t k p) ≡ a
    unfolding task_path
    path_keeps zero k p e = either (ltb (met t k p) p.length) _ p (shut p (met t k p) ∙ e) e
    path_keeps (suc left) k p e =
        either (ltb (met t k p) p.length) _ _ (shut p (met t k p) ∙ e)
        (keep-cause _ (cause_of t k.0) _ (λ l. keep_link _ l (λ j. path_keeps left j (longer p k (cause_of t k.0)) (grown p k (cause_of t k.0) ∙ e)))
        (grown p k (cause_of t k.0) ∙ e))
