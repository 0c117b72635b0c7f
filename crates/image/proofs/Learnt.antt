-- What a step learns from the check of its image: the sets of those whose states hold a time or a mask, and what an image is
-- refused for.
use Prim.Native.Nat.{ℕ, suc, ◌≤◌, ◌<◌}
use mathlib.Core.Path.{◌≡◌, refl, sym, ap, ap₂, ◌∙◌}
use mathlib.Core.Bool.{Bool, true, false, ◌||◌}
use mathlib.Core.List.{List}
use native.Mathlib.Omega.{arith}
use borrow.Author.Tests.{eqb-true}
use lib.Bits.{bit_or, or_lt}
use lib.ListN.{get_or}
use Rattle.executive.specs.declared.State.{State}
use Rattle.executive.specs.declared.Task.{Task}
use Rattle.executive.specs.Lists.{one, ◌and◌}
use Rattle.executive.specs.Places.{no_task, task_at}
use Rattle.executive.specs.States.{state_kind, is_dormant, is_of, has_time, has_mask}
use Rattle.executive.specs.Flags.{is_set}
use Rattle.executive.specs.Check.{is_blank, is_well_formed}
use Rattle.executive.specs.Step.{no_table}
use Rattle.executive.proofs.Assured.{and_true, bounds-get, set-or}
use Rattle.image.specs.Image.{load_of, is_image}
use Rattle.image.specs.Sound.{tasks_in}
use Rattle.image.specs.Marks.{passed, Marked, Kinds, Running}
use Rattle.image.specs.Waking.{Learned}
use Rattle.image.specs.Acting.{Acts}
use Rattle.image.proofs.Alike.{decide}
use Rattle.image.proofs.Loaded.{tasks-size}
use Rattle.image.proofs.Marked.{one_same, passed-at, marks-on}
use Rattle.image.proofs.Beheld.{past-each}
use Rattle.image.proofs.SoundParts.{Sound, sound-get}
use Rattle.image.proofs.Answered.{act_none, act_said}
use Rattle.image.proofs.Stepwise.{unformed}

-- ---- those who pass one of two tests
pub marks-either : (n v w : ℕ) (f g : State → Bool) (ts : List Task) → Marked n v (passed f ts) → Marked n w (passed g ts)
    → Marked n (bit_or v w) (passed (λ (x : State). f x || g x) ts)
marks-either n v w f g ts a b =
    record {
      low = or_lt n v w a.low b.low;
      told =
          λ j l.
          let x = (task_at ts (suc j)).state in
          ap one
          (ap₂ (λ (p q : Bool). p || q) (one_same (f x) (is_set v j) (a.told j l)) (one_same (g x) (is_set w j) (b.told j l)) ∙ sym (set-or j v w));
    }

module _ (s : List ℕ) (r : is_well_formed (load_of s) ≡ true) where
  abbrev n : ℕ
  n = (load_of s).rest.count

  rules : Sound s n (load_of s).rest.granule (load_of s).rest.clock.0 (load_of s).rest.queued (load_of s).rest.flags (load_of s).rest.sent refl refl refl refl refl refl
  rules = sound-get s n _ _ _ _ _ refl refl refl refl refl refl r

  few : n ≤ 16
  few = (bounds-get n (load_of s).rest.granule (load_of s).rest.clock (load_of s).rest.queued rules.bounds).count.1

  -- past the task count are blank entries
  past-dormant : (j : ℕ) → n ≤ j → j < 16 → state_kind (get_or (tasks_in s) j no_task).state ≡ 0
  past-dormant j h l =
      let m = tasks-size s in
      let b = past-each is_blank no_task (tasks_in s) n (omega (arith, m, few)) rules.blanks j h (omega (arith, m)) in
      sym (eqb-true 0 _ (and_true (is_dormant (get_or (tasks_in s) j no_task).state) _ b).0)

  of-all : (f : State → Bool) (w : ℕ) → ((x : State) → state_kind x ≡ 0 → f x ≡ false) → Marked n w (passed f (tasks_in s)) → Marked 16 w (passed f (tasks_in s))
  of-all f w q m =
      marks-on n 16 w (passed f (tasks_in s)) few m
      (λ j h l. passed-at f (tasks_in s) j false (sym (q (get_or (tasks_in s) j no_task).state (past-dormant j h l))))

  pub learned : (ws : List ℕ) (run : ℕ) → Kinds n ws (tasks_in s) → Running run (load_of s).rest.alarms
      → Learned (bit_or (get_or ws 2 0) (get_or ws 3 0)) (bit_or (get_or ws 4 0) (get_or ws 5 0)) run (load_of s)
  learned ws run k a =
      record {
        timed-told = of-all has_time _ (λ x e. rw e refl) (marks-either n _ _ (is_of 2) (is_of 3) (tasks_in s) (k.each 2 (omega arith)) (k.each 3 (omega arith)));
        flagged-told = of-all has_mask _ (λ x e. rw e refl) (marks-either n _ _ (is_of 4) (is_of 5) (tasks_in s) (k.each 4 (omega arith)) (k.each 5 (omega arith)));
        running-told = a;
      }

-- ---- bytes that are no image of a well-formed table
pub act_refused : (s k : List ℕ) → (is_image s and is_well_formed (load_of s)) ≡ false → Acts s k s no_table
act_refused s k e =
    decide (is_image s)
    (λ i.
    let w : is_well_formed (load_of s) ≡ false = rw i at e in
    let x = unformed s k i false no_table (sym w) refl refl in
    act_said s k no_table i x.0 x.1.0 x.1.1)
    (λ i. act_none s k i)
