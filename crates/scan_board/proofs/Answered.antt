-- The second engine's answers and buffers, a law for each outcome of its entry points.
use Prim.Native.Nat.{ℕ, ◌≤◌, ◌<◌}
use mathlib.Core.Path.{◌≡◌, refl, sym, ap, ◌∙◌}
use mathlib.Core.Bool.{true, false, cond}
use mathlib.Core.List.{List}
use native.Mathlib.Omega.{arith}
use lib.Dec.{ltb}
use lib.ListN.{length}
use borrow.Author.Tests.{eq-eqb, ne_eqb, lt-ltb, le-ltb}
use Rattle.executive.specs.declared.Answer.{Answer}
use Rattle.executive.specs.Step.{no_table}
use Rattle.scan.specs.declared.Scanned.{Scanned}
use Rattle.scan.specs.declared.Scan.{Scan}
use Rattle.scan.specs.declared.Made.{Made}
use Rattle.scan.specs.Sound.{is_sound, Checked}
use Rattle.scan.specs.Step.{scan_of}
use Rattle.scan.specs.Making.{made_of}
use Rattle.scan.proofs.Assured.{sound-get, sound_make}
use Rattle.image.specs.Blocks.{written}
use Rattle.image.specs.Image.{no_room}
use Rattle.image.specs.EntryPoints.{answer_length, answer_bytes}
use Rattle.image.proofs.Assured.{decide, never}
use Rattle.scan_board.specs.Image.{scan_length, scan_image, scan_load, is_scan, FitsScan}
use Rattle.scan_board.specs.EntryPoints.{check_number, CheckedScan, HoldsScan, fresh_number, fresh_image, answer_to, image_after, step_number, step_image, step_answer}
use Rattle.scan_board.proofs.Trips.{load_store, stored}

-- ---- a stored table
pub holds : (e u : Scanned) {s : List ℕ} → FitsScan e → e ≡ u → s ≡ scan_image e → HoldsScan s u
holds e u f q i = record { image = rw i (stored e f); loads = ap scan_load i ∙ load_store e f ∙ q }

-- ---- a fresh table
module _ (g o : List ℕ) where
  pub fresh-length : (length o ≡ scan_length → ⊥) → (no_room ≡ fresh_number g o) × (o ≡ fresh_image g o)
  unfolding fresh_number fresh_image
  fresh-length h = let e = ne_eqb (length o) scan_length h in (rw e, rw e)

  module _ (m : Made) (em : m ≡ made_of g) (n : length o ≡ scan_length) where
    pub fresh-refused : (m.number ≡ 0 → ⊥) → (m.number ≡ fresh_number g o) × (o ≡ fresh_image g o)
    unfolding fresh_number fresh_image
    fresh-refused h = let e = eq-eqb (length o) scan_length n in let k = ne_eqb m.number 0 h in rw (e, ← em) (refl, rw k)

    pub fresh-made : {u : List ℕ} → m.number ≡ 0 → u ≡ scan_image m.table → (0 ≡ fresh_number g o) × (u ≡ fresh_image g o)
    unfolding fresh_number fresh_image
    fresh-made h eu = let e = eq-eqb (length o) scan_length n in let k = eq-eqb m.number 0 h in rw (e, ← em) (sym h, rw k eu)

-- ---- the check
module _ (s : List ℕ) where
  pub check_none : is_scan s ≡ false → CheckedScan s 1
  unfolding check_number
  check_none h = record { number = rw h; right = (λ e. absurd (omega arith), λ w. absurd (never (sym h ∙ w.image))) }

  -- the table's own number, by the computed test
  table-number : (n : ℕ) → Checked (scan_load s) n → n ≡ cond (is_sound (scan_load s)) 0 1
  table-number n k =
      decide (is_sound (scan_load s))
      (λ e. rw e (k.right.1 (sound-get (scan_load s) e)))
      (λ e. rw e (k.wrong.1 (λ w. never (sym e ∙ sound_make (scan_load s) w))))

  pub check_image : (e : Scanned) (n : ℕ) → e ≡ scan_load s → is_scan s ≡ true → Checked e n → CheckedScan s n
  unfolding check_number
  check_image e n q h k =
      let l : Checked (scan_load s) n = rw q at k in
      record { number = rw h (table-number n l); right = (λ z. record { image = h; table = l.right.0 z }, λ w. l.right.1 w.table) }

-- ---- an answer that has room is given
pub given : (o u : List ℕ) (x : Answer) → answer_length ≤ length o → u ≡ cond (ltb (length o) answer_length) o (written o 0 (answer_bytes x))
    → u ≡ written o 0 (answer_bytes x)
given o u x h e = rw (le-ltb (length o) answer_length h) at e

-- ---- a step
module _ (s k o : List ℕ) where
  pub step-short : length o < answer_length → (no_room ≡ step_number s k o) × ((s ≡ step_image s k o) × (o ≡ step_answer s k o))
  unfolding step_number step_image step_answer
  step-short h = let e = lt-ltb (length o) answer_length h in (rw e, (rw e, rw e))

  module _ (h : answer_length ≤ length o) where
    pub step-none : {u : List ℕ} → is_scan s ≡ false → u ≡ written o 0 (answer_bytes no_table)
        → (1 ≡ step_number s k o) × ((s ≡ step_image s k o) × (u ≡ step_answer s k o))
    unfolding step_number step_image step_answer image_after answer_to
    step-none i eu = let e = le-ltb (length o) answer_length h in (rw (e, i), (rw (e, i), rw (e, i) eu))

    module _ (x : Scan) (ex : x ≡ scan_of (scan_load s) k) (i : is_scan s ≡ true) where
      pub step-refused : {u : List ℕ} → (x.answer.number ≡ 0 → ⊥) → u ≡ written o 0 (answer_bytes x.answer)
          → (x.answer.number ≡ step_number s k o) × ((s ≡ step_image s k o) × (u ≡ step_answer s k o))
      unfolding step_number step_image step_answer image_after answer_to
      step-refused n eu =
          let e = le-ltb (length o) answer_length h in
          let z = ne_eqb x.answer.number 0 n in
          (rw (e, i, ← ex), (rw (e, i, ← ex, z), rw (e, i, ← ex) eu))

      pub step-done : {u v : List ℕ} → x.answer.number ≡ 0 → u ≡ written o 0 (answer_bytes x.answer) → v ≡ scan_image x.table
          → (0 ≡ step_number s k o) × ((v ≡ step_image s k o) × (u ≡ step_answer s k o))
      unfolding step_number step_image step_answer image_after answer_to
      step-done n eu ev =
          let e = le-ltb (length o) answer_length h in
          let z = eq-eqb x.answer.number 0 n in
          (rw (e, i, ← ex) (sym n), (rw (e, i, ← ex, z) ev, rw (e, i, ← ex) eu))

-- ---- what is promised of refusals
pub not_made : (g o : List ℕ) → (fresh_number g o ≡ 0 → ⊥) → fresh_image g o ≡ o
unfolding fresh_image
not_made g o h = rw (ne_eqb (fresh_number g o) 0 h)

kept : (s k : List ℕ) → ((answer_to s k).number ≡ 0 → ⊥) → image_after s k ≡ s
unfolding image_after
kept s k h = rw (ne_eqb (answer_to s k).number 0 h)

module _ (s k o : List ℕ) where
  pub short : length o < answer_length → (step_image s k o ≡ s) × (step_answer s k o ≡ o)
  short h = let e = step-short s k o h in (sym e.1.0, sym e.1.1)

  pub refused : (step_number s k o ≡ 0 → ⊥) → step_image s k o ≡ s
  unfolding step_number step_image
  refused h =
      decide (ltb (length o) answer_length)
      (λ e. rw e)
      (λ e. rw e (kept s k (λ z. h (rw e z))))
