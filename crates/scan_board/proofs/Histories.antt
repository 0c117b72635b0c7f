-- Images of well-formed tables, fresh and through steps; and both engines' images side by side.
use Prim.Native.Nat.{ℕ, ◌≤◌}
use mathlib.Core.Path.{◌≡◌, refl, sym, ap, ◌∙◌}
use mathlib.Core.Bool.{true}
use mathlib.Core.List.{List, [], ◌∷◌}
use native.Mathlib.Omega.{arith}
use borrow.Author.Tests.{le-ltb, eq-eqb, eqb-true, eqb-false}
use lib.Dec.{eqb}
use lib.ListN.{length, get_or}
use Rattle.records.specs.Numbers.{Bytes}
use Rattle.executive.specs.declared.Answer.{Answer}
use Rattle.executive.specs.declared.Fresh.{Fresh}
use Rattle.executive.specs.Step.{no_table, step_of}
use Rattle.executive.specs.Configuration.{is_configuration, fresh_of}
use Rattle.executive.specs.Promises.Demands.{after}
use Rattle.executive.proofs.Assured.{fresh_law}
use Rattle.scan.specs.declared.Scanned.{Scanned}
use Rattle.scan.specs.Sound.{SoundScan}
use Rattle.scan.specs.Step.{scan_of}
use Rattle.scan.specs.Making.{made_of}
use Rattle.scan.specs.Queued.{queued}
use Rattle.scan.specs.Promises.{after_scan, answers_scan, answers_of}
use Rattle.scan.proofs.Assured as scan
use Rattle.image.specs.Blocks.{written}
use Rattle.image.specs.Image.{image_length}
use Rattle.image.specs.EntryPoints.{Holds, MakesImage, answer_length, answer_bytes, StepsImage}
use Rattle.image.specs.EntryPoints as board
use Rattle.image.proofs.Assured.{promises, decide}
use Rattle.scan_board.specs.Image.{scan_length, scan_load}
use Rattle.scan_board.specs.EntryPoints.{SoundImage, HoldsScan, fresh_number, MakesScan, answer_to, step_number, step_answer, StepsScan}
use Rattle.scan_board.proofs.Answered.{refused}

-- the image of a well-formed table
held : (s : List ℕ) (e : Scanned) → HoldsScan s e → SoundScan e → SoundImage s
held s e h w = record { image = h.image; table = rw h.loads w }

-- ---- a fresh one
module _ (g o : List ℕ) where
  made-number : 0 ≡ fresh_number g o → (made_of g).number ≡ 0
  unfolding fresh_number
  made-number e =
      decide (eqb (length o) scan_length)
      (λ h. let z : 0 ≡ (made_of g).number = rw h at e in sym z)
      (λ h. let z : ◌≡◌ {A = ℕ} 0 30 = rw h at e in absurd (omega arith))

-- with number 0 the bytes are a configuration
configured : (g : List ℕ) → (made_of g).number ≡ 0 → is_configuration g ≡ true
unfolding made_of
configured g e =
    decide (is_configuration g)
    (λ h. h)
    (λ h. let z : ◌≡◌ {A = ℕ} 2 0 = sym (ap (λ (f : Fresh). f.answer.number) (fresh_law.refused g h)) ∙ e in absurd (omega arith))

pub fresh_kept : (g o p : List ℕ) → Bytes g → MakesScan g o p 0 → SoundImage p
fresh_kept g o p b m =
    held p (made_of g).table (m.holds refl) ((scan.promises).fresh g b (configured g (made-number g o m.number)))

pub fresh-equal : (g o r p q : List ℕ) (n m : ℕ) → Bytes g → length o ≡ scan_length → length r ≡ image_length
    → MakesScan g o p n → MakesImage g r q m → (n ≡ m) × (n ≡ 0 → Holds q (queued (scan_load p)))
unfolding fresh_number board.fresh_number
fresh-equal g o r p q n m b lo lr x y =
    let ex : n ≡ (made_of g).number = x.number ∙ rw (eq-eqb (length o) scan_length lo) refl in
    let ey : m ≡ (fresh_of g).answer.number = y.number ∙ rw (eq-eqb (length r) image_length lr) refl in
    let e : n ≡ m = ex ∙ ((scan.promises).equal g [] b tt).0 ∙ sym ey in (
      e,
      λ z.
          let h = y.holds (sym e ∙ z) in
          let c = configured g (sym ex ∙ z) in
          record { image = h.image; loads = h.loads ∙ sym ((scan.promises).alike-fresh g b c) ∙ ap queued (sym (x.holds z).loads) },
    )

-- ---- a step
module _ (s k o p u : List ℕ) (n : ℕ) (b : Bytes k) (w : SoundImage s) (x : StepsScan s k o p u n) where
  next-sound : SoundScan (scan_of (scan_load s) k).table
  unfolding after_scan
  next-sound = (scan.promises).kept (scan_load s) (k ∷ []) w.table (b, tt)

  same-image : (n ≡ 0 → ⊥) → p ≡ s
  same-image h = x.image ∙ refused s k o (λ e. h (x.number ∙ e))

  pub step_kept : SoundImage p
  step_kept =
      decide (eqb n 0)
      (λ e. held p (scan_of (scan_load s) k).table (x.holds (eqb-true n 0 e)) next-sound)
      (λ e. rw (same-image (eqb-false n 0 e)) w)

  -- ---- beside a step of the first engine
  module _ (t q v : List ℕ) (m : ℕ) (l : answer_length ≤ length o) (h : Holds t (queued (scan_load s))) (y : StepsImage t k o q v m) where
    same_answer : answer_to s k ≡ board.answer_to t k
    unfolding answer_to board.answer_to answers_scan answers_of
    same_answer =
        let e = (scan.promises).equal-from (scan_load s) (k ∷ []) w.table (b, tt) in
        rw (w.image, h.image, h.loads) (ap (λ (said : List Answer). get_or said 0 no_table) e)

    same_number : n ≡ m
    unfolding step_number board.step_number
    same_number =
        let f = le-ltb (length o) answer_length l in
        let ex : n ≡ (answer_to s k).number = x.number ∙ rw f refl in
        let ey : m ≡ (board.answer_to t k).number = y.number ∙ rw f refl in
        ex ∙ ap (λ (a : Answer). a.number) same_answer ∙ sym ey

    same_bytes : u ≡ v
    unfolding step_answer board.step_answer
    same_bytes =
        let f = le-ltb (length o) answer_length l in
        let ex : u ≡ written o 0 (answer_bytes (answer_to s k)) = x.answer ∙ rw f refl in
        let ey : v ≡ written o 0 (answer_bytes (board.answer_to t k)) = y.answer ∙ rw f refl in
        ex ∙ ap (λ a. written o 0 (answer_bytes a)) same_answer ∙ sym ey

    same-table : queued (scan_of (scan_load s) k).table ≡ (step_of (queued (scan_load s)) k).table
    unfolding after_scan after
    same-table = (scan.promises).alike (scan_load s) (k ∷ []) w.table (b, tt)

    both-accept : n ≡ 0 → Holds q (queued (scan_load p))
    both-accept z =
        let g = y.holds (sym same_number ∙ z) in
        record {
          image = g.image;
          loads = g.loads ∙ ap (λ a. (step_of a k).table) h.loads ∙ sym same-table ∙ ap queued (sym (x.holds z).loads);
        }

    both_refuse : (n ≡ 0 → ⊥) → Holds q (queued (scan_load p))
    both_refuse z =
        let eq : q ≡ t = y.image ∙ promises.refused t k o (λ e. z (same_number ∙ y.number ∙ e)) in
        rw (eq, same-image z) h

    pub step-equal : (n ≡ m) × (u ≡ v) × Holds q (queued (scan_load p))
    step-equal =
        (same_number, same_bytes, decide (eqb n 0) (λ e. both-accept (eqb-true n 0 e)) (λ e. both_refuse (eqb-false n 0 e)))
