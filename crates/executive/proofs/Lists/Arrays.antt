-- Laws of lists that the crate's loops cite. Each is stated once, over the element type.
use Prim.Native.Nat.{ℕ, zero, suc, ◌+◌, ◌≤◌, ◌<◌}
use mathlib.Core.Path.{◌≡◌, refl, ap, ◌∙◌}
use mathlib.Core.List.{List, [], ◌∷◌, ◌++◌, append-nil}
use native.Mathlib.Nat.{le_of_suc-le-suc, not-suc-le-zero}
use native.Mathlib.Numerals.{add-one}
use lib.ListN.{length, take, drop, set, get_or, drop_of_length-le}
use lib.Seq.{take_all}

module _ {ℓ} {A : Type ℓ} where
  -- a list that is filled from the front: the first i of x over y
  fill : (x y : List A) (i : ℕ) (d : A) → i < length x → i < length y → set (take i x ++ drop i y) i (get_or x i d) ≡ take (suc i) x ++ drop (suc i) y
  fill [] y i d hx hy = absurd (not-suc-le-zero hx)
  fill (a ∷ x) [] i d hx hy = absurd (not-suc-le-zero hy)
  fill (a ∷ x) (b ∷ y) zero d hx hy = refl
  fill (a ∷ x) (b ∷ y) (suc i) d hx hy = ap (λ (l : List A). a ∷ l) (fill x y i d (le_of_suc-le-suc hx) (le_of_suc-le-suc hy))

  -- one turn of a loop that fills q with x
  pub fill-turn : (x y q : List A) (i : ℕ) (v d : A) → q ≡ take i x ++ drop i y → i < length x → i < length y → v ≡ get_or x i d
      → set q i v ≡ take (i + 1) x ++ drop (i + 1) y
  fill-turn x y q i v d e hx hy ev = rw (e, ev, add-one) (fill x y i d hx hy)

  -- the end of such a loop
  pub fill_end : (x y q : List A) (n : ℕ) → q ≡ take n x ++ drop n y → length x ≤ n → length y ≤ n → q ≡ x
  fill_end x y q n e hx hy = e ∙ simp (take_all n x hx, drop_of_length-le y hy, append-nil)

  -- what stands within a list does not depend on what is read past its end
  pub get_d_within : (xs : List A) (i : ℕ) (d e : A) → i < length xs → get_or xs i d ≡ get_or xs i e
  get_d_within [] i d e h = absurd (not-suc-le-zero h)
  get_d_within (x ∷ xs) zero d e h = refl
  get_d_within (x ∷ xs) (suc i) d e h = get_d_within xs i d e (le_of_suc-le-suc h)
