-- Images of well-formed tables, fresh and through steps: what the demands say of the tables holds of the images.
use Prim.Native.Nat.{ℕ, ◌≤◌}
use mathlib.Core.Path.{◌≡◌, refl, sym, ap, ◌∙◌}
use mathlib.Core.Bool.{true}
use mathlib.Core.List.{List, [], ◌∷◌}
use native.Mathlib.Omega.{arith}
use borrow.Author.Tests.{le-ltb, eqb-true, eqb-false}
use lib.Dec.{eqb}
use lib.ListN.{length, get_or}
use Rattle.records.specs.Numbers.{Bytes}
use Rattle.executive.specs.declared.Table.{Table}
use Rattle.executive.specs.declared.Fresh.{Fresh}
use Rattle.executive.specs.declared.Answer.{Answer}
use Rattle.executive.specs.WellFormed.{WellFormed}
use Rattle.executive.specs.Step.{step_of}
use Rattle.executive.specs.Configuration.{is_configuration, fresh_of}
use Rattle.executive.specs.Promises.Demands.{after, AllBytes, IsReady, Dispatched, NotYet}
use Rattle.executive.proofs.Assured.{demands, fresh_law}
use Rattle.image.specs.Blocks.{written}
use Rattle.image.specs.Image.{image_length, load_of, is_image}
use Rattle.image.specs.EntryPoints.{WellFormedImage, Holds, fresh_number, MakesImage, answer_length, active_at, answer_to, step_number, step_answer, StepsImage, Stepped, Runs, OvertakingImage}
use Rattle.image.specs.Acting.{Acts}
use Rattle.image.proofs.Alike.{decide}
use Rattle.image.proofs.Answered.{refused, kept}

-- the image of a well-formed table
held : (s : List ℕ) (t : Table) → Holds s t → WellFormed t → WellFormedImage s
held s t h w = record { image = h.image; table = rw h.loads w }

-- ---- a fresh one
made-number : (g o : List ℕ) → 0 ≡ fresh_number g o → (fresh_of g).answer.number ≡ 0
unfolding fresh_number
made-number g o e =
    decide (eqb (length o) image_length)
    (λ h. let z : 0 ≡ (fresh_of g).answer.number = rw h at e in sym z)
    (λ h. let z : ◌≡◌ {A = ℕ} 0 30 = rw h at e in absurd (omega arith))

made-formed : (g : List ℕ) → Bytes g → (fresh_of g).answer.number ≡ 0 → WellFormed (fresh_of g).table
made-formed g b e =
    decide (is_configuration g)
    (λ h. rw (fresh_law.made g h) (fresh_law.formed g b h))
    (λ h. let z : ◌≡◌ {A = ℕ} 2 0 = sym (ap (λ (f : Fresh). f.answer.number) (fresh_law.refused g h)) ∙ e in absurd (omega arith))

pub fresh_kept : (g o p : List ℕ) → Bytes g → MakesImage g o p 0 → WellFormedImage p
fresh_kept g o p b m = held p (fresh_of g).table (m.holds refl) (made-formed g b (made-number g o m.number))

-- ---- a step
module _ (s k o p q : List ℕ) (n : ℕ) (b : Bytes k) (w : WellFormedImage s) (x : StepsImage s k o p q n) where
  next-formed : WellFormed (step_of (load_of s) k).table
  unfolding after
  next-formed = demands.kept (load_of s) (k ∷ []) w.table (b, tt)

  same-image : (n ≡ 0 → ⊥) → p ≡ s
  same-image h = x.image ∙ refused s k o (λ e. h (x.number ∙ e))

  pub step_kept : WellFormedImage p
  step_kept =
      decide (eqb n 0)
      (λ e. held p (step_of (load_of s) k).table (x.holds (eqb-true n 0 e)) next-formed)
      (λ e. rw (same-image (eqb-false n 0 e)) w)

  module _ (h : answer_length ≤ length o) where
    own-number : n ≡ (step_of (load_of s) k).answer.number
    unfolding step_number answer_to
    own-number = x.number ∙ rw (le-ltb (length o) answer_length h, w.image)

    -- the image at the end is that of the executive's own table
    pub goes_on : load_of p ≡ (step_of (load_of s) k).table
    goes_on =
        decide (eqb n 0)
        (λ e. (x.holds (eqb-true n 0 e)).loads)
        (λ e.
        let z = eqb-false n 0 e in
        ap load_of (same-image z) ∙ sym (demands.refusal-keeps (load_of s) k (λ f. z (own-number ∙ f))))

    active-byte : get_or q active_at 0 ≡ (step_of (load_of s) k).answer.active.0
    unfolding step_answer answer_to written
    active-byte = ap (λ (u : List ℕ). get_or u active_at 0) x.answer ∙ rw (le-ltb (length o) answer_length h, w.image)

    pub active : Dispatched (load_of p) (get_or q active_at 0)
    unfolding after
    active = rw (goes_on, active-byte) (demands.dispatched (load_of s) [] k w.table tt b)

-- ---- a step whose answer is handed out as a value, at the image of any table: the answer is the table's own, and the image is
-- then that of the table after it
module _ (s k p : List ℕ) (a : Answer) (x : Acts s k p a) where
  own-answer : is_image s ≡ true → a ≡ (step_of (load_of s) k).answer
  unfolding answer_to
  own-answer i = x.answer ∙ rw i

  stays : is_image s ≡ true → (a.number ≡ 0 → ⊥) → Holds p (step_of (load_of s) k).table
  stays i n =
      let e : p ≡ s = x.image ∙ kept s k (λ z. n (ap (λ (y : Answer). y.number) x.answer ∙ z)) in
      let r = demands.refusal-keeps (load_of s) k (λ z. n (ap (λ (y : Answer). y.number) (own-answer i) ∙ z)) in
      record { image = rw e i; loads = ap load_of e ∙ sym r }

  pub acted : (t : Table) → Holds s t → (a ≡ (step_of t k).answer) × Holds p (step_of t k).table
  acted t h =
      rw (← h.loads)
      (own-answer h.image, decide (eqb a.number 0) (λ e. x.holds (eqb-true a.number 0 e)) (λ e. stays h.image (eqb-false a.number 0 e)))

-- ---- a history of images
record Ran (s : List ℕ) (ks : List (List ℕ)) (p : List ℕ) : Type 0 where
  pub image : WellFormedImage p
  pub loads : load_of p ≡ after (load_of s) ks

ran : (s : List ℕ) (ks : List (List ℕ)) (p : List ℕ) → AllBytes ks → WellFormedImage s → Runs s ks p → Ran s ks p
unfolding after
ran s [] p b w r = record { image = rw r at w; loads = ap load_of (sym r) }
ran s (k ∷ ks) p b w r =
    let u : List ℕ = r.0 in
    let x : Stepped s k u = r.1 in
    let v : WellFormedImage u = step_kept s k x.before u x.after x.number b.0 w x.steps in
    let e : load_of u ≡ (step_of (load_of s) k).table = goes_on s k x.before u x.after x.number b.0 w x.steps x.room in
    let t : Ran u ks p = ran u ks p b.1 v r.2 in
    record { image = t.image; loads = t.loads ∙ ap (λ (a : Table). after a ks) e }

pub overtaking : (s : List ℕ) (k : ℕ) (ks : List (List ℕ)) (p : List ℕ) → AllBytes ks → WellFormedImage s → Runs s ks p
    → IsReady (load_of s) k → NotYet k (load_of s) ks → OvertakingImage s k ks p
overtaking s k ks p b w r y n =
    let t : Ran s ks p = ran s ks p b w r in
    record { tables = demands.overtaking (load_of s) k ks w.table b y n; image = t.image; loads = t.loads }
