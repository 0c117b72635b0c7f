-- Which refusal is the first, from what the code's tests give.
use Prim.Native.Nat.{ℕ, ◌+◌, ◌-◌, ◌≤◌, ◌<◌}
use mathlib.Core.Path.{◌≡◌, refl, sym, ◌∙◌}
use mathlib.Core.Bool.{Bool, true, false, cond, ◌||◌}
use mathlib.Core.List.{List, [], ◌∷◌}
use native.Mathlib.Omega.{arith}
use lib.Dec.{eqb, ltb, leb}
use lib.ListN.{length}
use borrow.Author.Tests.{eq-eqb, ne_eqb, lt-ltb, le-ltb, ltb-false, leb-false}
use Rattle.records.specs.Firsts.{when, first_of}
use Rattle.blocks.specs.Lists.{is_bad}
use Rattle.blocks.specs.Types.{Form, is_none, length_in, size_of, unlisted}
use Rattle.blocks.specs.Refusals.{longest, is_outside, refusals, by_place, by_numbers}
use Rattle.blocks.proofs.Places.{decide, neither}

-- the address is in an image that is not too long
pub inside : (n a : ℕ) → is_outside n a ≡ false → (n ≤ 65536) × (a < n)
inside n a e =
    let q = neither (ltb longest n) (leb n a) e in
    let h = ltb-false longest n q.0 in
    let k = leb-false n a q.1 in
    (omega arith, omega arith)

-- ---- by the place and the list
module _ (n a k : ℕ) (l : List ℕ) where
  pub place-outside : is_outside n a ≡ true → 18 ≡ first_of (by_place n a k l)
  unfolding first_of
  place-outside e = rw e

  module _ (i : is_outside n a ≡ false) where
    pub place_none : k ≡ 0 → 4 ≡ first_of (by_place n a k l)
    unfolding first_of
    place_none e = rw (i, eq-eqb k 0 e)

    module _ (z : k ≡ 0 → ⊥) where
      pub place-past : n - a < k → 18 ≡ first_of (by_place n a k l)
      unfolding first_of
      place-past h =
          let q = inside n a i in
          let t = lt-ltb n (a + k) (omega arith) in
          rw (i, ne_eqb k 0 z, t)

      module _ (h : k ≤ n - a) where
        fits : ltb n (a + k) ≡ false
        fits = let q = inside n a i in le-ltb n (a + k) (omega arith)

        pub place-bad : is_bad l ≡ true → 19 ≡ first_of (by_place n a k l)
        unfolding first_of
        place-bad e = rw (i, ne_eqb k 0 z, fits, e)

        pub place-good : is_bad l ≡ false → 0 ≡ first_of (by_place n a k l)
        unfolding first_of
        place-good e = rw (i, ne_eqb k 0 z, fits, e)

-- ---- the whole list is what is judged by place, and then what is judged by the numbers
parted : (b c d e f g : Bool)
    → first_of (when 18 b ∷ when 4 c ∷ when 18 d ∷ when 19 (e || f) ∷ when 21 g ∷ [])
    ≡ cond (eqb (first_of (when 18 b ∷ when 4 c ∷ when 18 d ∷ when 19 e ∷ [])) 0)
    (first_of (when 19 f ∷ when 21 g ∷ []))
    (first_of (when 18 b ∷ when 4 c ∷ when 18 d ∷ when 19 e ∷ []))
unfolding first_of
parted true c d e f g = refl
parted false true d e f g = refl
parted false false true e f g = refl
parted false false false true f g = refl
parted false false false false f g = refl

module _ (n a : ℕ) (l : List ℕ) (f : Form) where
  by_size : first_of (by_place n a (size_of f) l)
      ≡ first_of (when 18 (is_outside n a) ∷ when 4 (is_none f) ∷ when 18 (ltb n (a + length_in f)) ∷ when 19 (is_bad l) ∷ [])
  unfolding first_of
  by_size =
      decide (is_none f)
      (λ e. rw e refl)
      (λ e. rw (e, ne_eqb (length_in f) 0 (λ z. omega arith)) refl)

  pub joined : (xs : List ℕ) → first_of (refusals n a l f xs)
      ≡ cond (eqb (first_of (by_place n a (size_of f) l)) 0) (first_of (by_numbers (length l) f xs)) (first_of (by_place n a (size_of f) l))
  joined xs =
      rw by_size
      (parted (is_outside n a) (is_none f) (ltb n (a + length_in f)) (is_bad l) (unlisted (length l) f.uses xs) (f.otherwise xs))

  pub joined-place : (xs : List ℕ) (p : ℕ) → p ≡ first_of (by_place n a (size_of f) l) → (p ≡ 0 → ⊥) → p ≡ first_of (refusals n a l f xs)
  joined-place xs p e z = sym (joined xs ∙ rw (← e, ne_eqb p 0 z))

  pub joined_numbers : (xs : List ℕ) (p q : ℕ) → p ≡ first_of (by_place n a (size_of f) l) → p ≡ 0
      → q ≡ first_of (by_numbers (length l) f xs) → q ≡ first_of (refusals n a l f xs)
  joined_numbers xs p q e z h = sym (joined xs ∙ rw (← e, eq-eqb p 0 z, ← h))

-- ---- what an accepted block is: within the image, of a form, with a good list, its tasks listed
pub record Accepted (n a : ℕ) (l : List ℕ) (f : Form) (xs : List ℕ) : Type 0 where
  pub within : is_outside n a ≡ false
  pub some : is_none f ≡ false
  pub fits : a + length_in f ≤ n
  pub good : is_bad l ≡ false
  pub tasks : unlisted (length l) f.uses xs ≡ false

cleared : (b c d e f g : Bool) → first_of (when 18 b ∷ when 4 c ∷ when 18 d ∷ when 19 (e || f) ∷ when 21 g ∷ []) ≡ 0
    → (b ≡ false) × (c ≡ false) × (d ≡ false) × (e ≡ false) × (f ≡ false)
unfolding first_of
cleared true c d e f g h = absurd (omega arith)
cleared false true d e f g h = absurd (omega arith)
cleared false false true e f g h = absurd (omega arith)
cleared false false false true f g h = absurd (omega arith)
cleared false false false false true g h = absurd (omega arith)
cleared false false false false false g h = (refl, refl, refl, refl, refl)

pub accepted : (n a : ℕ) (l : List ℕ) (f : Form) (xs : List ℕ) → first_of (refusals n a l f xs) ≡ 0 → Accepted n a l f xs
accepted n a l f xs e =
    let q =
    cleared (is_outside n a) (is_none f) (ltb n (a + length_in f)) (is_bad l) (unlisted (length l) f.uses xs) (f.otherwise xs) e in
    record { within = q.0; some = q.1; fits = ltb-false n (a + length_in f) q.2; good = q.3; tasks = q.4 }

-- the same of what is judged by place
pub record Placed (n a : ℕ) (l : List ℕ) (f : Form) : Type 0 where
  pub within : is_outside n a ≡ false
  pub some : is_none f ≡ false
  pub fits : a + length_in f ≤ n
  pub good : is_bad l ≡ false

placed_by : (b c d e : Bool) → first_of (when 18 b ∷ when 4 c ∷ when 18 d ∷ when 19 e ∷ []) ≡ 0
    → (b ≡ false) × (c ≡ false) × (d ≡ false) × (e ≡ false)
unfolding first_of
placed_by true c d e h = absurd (omega arith)
placed_by false true d e h = absurd (omega arith)
placed_by false false true e h = absurd (omega arith)
placed_by false false false true h = absurd (omega arith)
placed_by false false false false h = (refl, refl, refl, refl)

pub placed : (n a : ℕ) (l : List ℕ) (f : Form) (p : ℕ) → p ≡ first_of (by_place n a (size_of f) l) → p ≡ 0 → Placed n a l f
placed n a l f p e z =
    let q = placed_by (is_outside n a) (is_none f) (ltb n (a + length_in f)) (is_bad l) (sym (by_size n a l f) ∙ sym e ∙ z) in
    record { within = q.0; some = q.1; fits = ltb-false n (a + length_in f) q.2; good = q.3 }
