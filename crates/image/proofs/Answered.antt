-- The entry points' answers and buffers, a law for each of their outcomes.
use Prim.Native.Nat.{ℕ, ◌≤◌, ◌<◌}
use mathlib.Core.Path.{◌≡◌, refl, sym, ap, ◌∙◌}
use mathlib.Core.Bool.{true, false}
use mathlib.Core.List.{List}
use native.Mathlib.Omega.{arith}
use lib.Dec.{ltb}
use lib.ListN.{length}
use borrow.Author.Tests.{eq-eqb, ne_eqb, lt-ltb, le-ltb}
use Rattle.executive.specs.declared.Table.{Table}
use Rattle.executive.specs.declared.Answer.{Answer}
use Rattle.executive.specs.Check.{is_well_formed}
use Rattle.executive.specs.Lists.{◌and◌}
use Rattle.executive.proofs.Assured.{decided, fresh_law, and_true, true_and}
use Rattle.executive.specs.Step.{no_table, step_of}
use Rattle.executive.specs.Configuration.{is_configuration, fresh_table}
use Rattle.records.specs.declared.TaskNo.{TaskNo}
use Rattle.why.specs.declared.Reasons.{Reasons}
use Rattle.image.specs.Blocks.{written}
use Rattle.image.specs.Image.{no_room, image_length, image_of, load_of, is_image, FitsTable}
use Rattle.image.specs.EntryPoints.{check_number, CheckedImage, Holds, fresh_number, fresh_image, MakesImage, answer_length, answer_bytes, answer_to, image_after, step_number, step_image, step_answer}
use Rattle.image.specs.Acting.{Acts}
use Rattle.image.specs.Laid.{Laid}
use Rattle.image.specs.Reasons.{reasons_length, reasons_bytes, reasons_to, why_number, why_answer}
use Rattle.image.proofs.Alike.{decide, never}
use Rattle.image.proofs.LoadLaid.{laid-holds}
use Rattle.image.proofs.Trips.{load_store, stored}

-- ---- a stored table
pub holds : (t : Table) (u : Table) {s : List ℕ} → FitsTable t → t ≡ u → s ≡ image_of t → Holds s u
holds t u f e i = record { image = rw i (stored t f); loads = ap load_of i ∙ load_store t f ∙ e }

-- ---- a fresh table
module _ (g o : List ℕ) where
  pub fresh-length : (length o ≡ image_length → ⊥) → (no_room ≡ fresh_number g o) × (o ≡ fresh_image g o)
  unfolding fresh_number fresh_image
  fresh-length h = let e = ne_eqb (length o) image_length h in (rw e, rw e)

  module _ (n : length o ≡ image_length) where
    pub fresh-refused : is_configuration g ≡ false → (2 ≡ fresh_number g o) × (o ≡ fresh_image g o)
    unfolding fresh_number fresh_image
    fresh-refused h = let e = eq-eqb (length o) image_length n in rw (e, fresh_law.refused g h) (refl, refl)

    pub fresh-made : {u : List ℕ} → is_configuration g ≡ true → Laid u (fresh_table g) → MakesImage g o u 0
    unfolding fresh_number fresh_image
    fresh-made {u} h l =
        let e = eq-eqb (length o) image_length n in
        let m = fresh_law.made g h in
        record { number = rw (e, m); image = rw (e, m) l.image; holds = λ z. rw m (laid-holds (fresh_table g) l) }

-- ---- the check of some bytes
module _ (s : List ℕ) where
  pub check_sound : (is_image s and is_well_formed (load_of s)) ≡ true → CheckedImage s 0
  unfolding check_number
  check_sound e =
      let b = and_true (is_image s) _ e in
      record { number = rw (b.0, b.1); right = (λ z. record { image = b.0; table = (decided.iff (load_of s)).0 b.1 }, λ w. refl) }

  pub check_unsound : (is_image s and is_well_formed (load_of s)) ≡ false → CheckedImage s 1
  unfolding check_number
  check_unsound e =
      record {
        number = decide (is_image s) (λ i. rw i (let w : is_well_formed (load_of s) ≡ false = rw i at e in rw w)) (λ i. rw i);
        right = (λ z. absurd (omega arith), λ w. absurd (never (sym e ∙ true_and (is_image s) _ w.image ((decided.iff (load_of s)).1 w.table))));
      }

-- ---- a step that hands its answer out as a value
module _ (s k : List ℕ) where
  pub act_none : is_image s ≡ false → Acts s k s no_table
  unfolding image_after answer_to
  act_none i = record { answer = rw i; image = rw i; holds = λ z. absurd (omega arith) }

  pub act_said : {v : List ℕ} (a : Answer) → is_image s ≡ true → a ≡ (step_of (load_of s) k).answer → v ≡ image_after s k
      → (a.number ≡ 0 → Holds v (step_of (load_of s) k).table) → Acts s k v a
  unfolding answer_to
  act_said a i ea ev h = record { answer = rw i ea; image = ev; holds = h }

-- ---- a step
module _ (s k o : List ℕ) where
  pub step-short : length o < answer_length → (no_room ≡ step_number s k o) × ((s ≡ step_image s k o) × (o ≡ step_answer s k o))
  unfolding step_number step_image step_answer
  step-short h = let e = lt-ltb (length o) answer_length h in (rw e, (rw e, rw e))

  module _ (h : answer_length ≤ length o) where
    pub step-acted : {p u : List ℕ} {a : Answer} → Acts s k p a → u ≡ written o 0 (answer_bytes a)
        → (a.number ≡ step_number s k o) × ((p ≡ step_image s k o) × (u ≡ step_answer s k o))
    unfolding step_number step_image step_answer
    step-acted x eu =
        let e = le-ltb (length o) answer_length h in
        (rw e (ap (λ (y : Answer). y.number) x.answer), (rw e x.image, rw (e, ← x.answer) eu))

-- ---- a question why a task is not running
module _ (s : List ℕ) (k : TaskNo) (o : List ℕ) where
  pub why_short : length o < reasons_length → (no_room ≡ why_number s k o) × (o ≡ why_answer s k o)
  unfolding why_number why_answer
  why_short h = let e = lt-ltb (length o) reasons_length h in (rw e, rw e)

  pub why_told : {u : List ℕ} (r : Reasons) → reasons_length ≤ length o → r ≡ reasons_to s k → u ≡ written o 0 (reasons_bytes r)
      → (r.number ≡ why_number s k o) × (u ≡ why_answer s k o)
  unfolding why_number why_answer
  why_told r h er eu = let e = le-ltb (length o) reasons_length h in (rw (e, ← er), rw (e, ← er) eu)

-- ---- what is promised of refusals
pub not_made : (g o : List ℕ) → (fresh_number g o ≡ 0 → ⊥) → fresh_image g o ≡ o
unfolding fresh_image
not_made g o h = rw (ne_eqb (fresh_number g o) 0 h)

pub kept : (s k : List ℕ) → ((answer_to s k).number ≡ 0 → ⊥) → image_after s k ≡ s
unfolding image_after
kept s k h = rw (ne_eqb (answer_to s k).number 0 h)

module _ (s k o : List ℕ) where
  pub short : length o < answer_length → (step_image s k o ≡ s) × (step_answer s k o ≡ o)
  short h = let e = step-short s k o h in (sym e.1.0, sym e.1.1)

  pub refused : (step_number s k o ≡ 0 → ⊥) → step_image s k o ≡ s
  unfolding step_number step_image
  refused h =
      decide (ltb (length o) answer_length)
      (λ e. rw e)
      (λ e. rw e (kept s k (λ z. h (rw e z))))
