-- The loop that closes up what passes a test, as the code's turns take it, and the arrays that calls make.
use Prim.Native.Nat.{ℕ, zero, suc, ◌+◌, ◌≤◌, ◌<◌}
use mathlib.Core.Path.{◌≡◌, sym, ap, ◌∙◌}
use mathlib.Core.Bool.{Bool, true, false}
use mathlib.Core.List.{List, map}
use mathlib.Core.Path.{subst}
use native.Mathlib.Omega.{arith}
use denote.Param.Members.{Mut, Called}
use lib.ListN.{length, take, set, get_or}
use lib.Seq.{ext_get_or}
use Rattle.std.proofs.lemmas.List.{get_or-map, length-map, map-id}
use Rattle.std.specs.Array.{IsFromFnResult, IsFromFnResultFrom, IsMapOf, MapsFrom}
use Rattle.executive.specs.Letters.{all_that}
use Rattle.executive.proofs.Assured.{get_d_within}
use Rattle.mender.specs.declared.filled.Filled.{Filled}
use Rattle.mender.specs.Filled.{filled_of, filled_with}
use Rattle.mender.specs.Rows.{row}
use Rattle.mender.proofs.Rows.{row-length, row_at}
use Rattle.mender.proofs.Filters.{passed-more, passed-not, passed-end}

-- what passed of the first i places of p, closed up over free places d: one that passes, one that does not, and the end. The
-- one at place i is read with any e for a place past the last
module _ {A : Type 0} (f : A → Bool) (d : A) (n : ℕ) (p : List A) (l : length p ≡ n) where
  abbrev closed : ℕ → Filled A n
  closed i = filled_of n d (all_that f (take i p))

  module _ (q : List A) (m i : ℕ) (c : record { places = q; taken = m } ≡ closed i) where
    module _ (e : A) (h : i < n) where
      at_d : get_or p i e ≡ get_or p i d
      at_d = get_d_within p i e d (omega arith)

      pub closed-more : f (get_or p i e) ≡ true → record { places = set q m (get_or p i e); taken = m + 1 } ≡ closed (i + 1)
      closed-more y =
          let z = passed-more f d n p l i h (sym (ap f at_d) ∙ y) in
          ap (filled_with (get_or p i e)) c ∙ ap (λ (x : A). filled_with x (closed i)) at_d ∙ (λ j. record { places = z.0 j; taken = z.1 j })

      pub closed-not : f (get_or p i e) ≡ false → record { places = q; taken = m } ≡ closed (i + 1)
      closed-not y = c ∙ ap (filled_of n d) (sym (passed-not f d n p l i h (sym (ap f at_d) ∙ y)))

    pub closed-end : n ≤ i → record { places = q; taken = m } ≡ filled_of n d (all_that f p)
    closed-end h = c ∙ ap (filled_of n d) (passed-end f d n p l i h)

-- an array that calls at its places made is a row, as v sees it, where each call gives what a function does and leaves the
-- closure as it was
module _ {F B C : Type 0} (g : Mut F (ℕ × Unit {0}) B) (f : F) (v : B → C) (h : ℕ → C) (d : B) (n : ℕ) (ys : List B)
    (one : (i : ℕ) → i < n → (y : B) (q : F) → Called g f (i, tt) y q → (v y ≡ h i) × (q ≡ f)) where
  made_at : (m i : ℕ) → i + m ≤ n → IsFromFnResultFrom g f ys i m → (j k : ℕ) → j < m → k ≡ i + j → v (get_or ys k d) ≡ h k
  made_at zero i b c j k l e = absurd (omega arith)
  made_at (suc m) i b c zero k l e = let z : i ≡ k = omega arith in rw (← z) (ap v (c.2.1 d) ∙ (one i (omega arith) c.1 c.0 c.3).0)
  made_at (suc m) i b c (suc j) k l e =
      let r : IsFromFnResultFrom g f ys (i + 1) m = subst (λ (q : F). IsFromFnResultFrom g q ys (i + 1) m) (one i (omega arith) c.1 c.0 c.3).1 c.4 in
      made_at m (i + 1) (omega arith) r j k (omega arith) (omega arith)

pub made_seen : {F B C : Type 0} {g : Mut F (ℕ × Unit {0}) B} {f : F} {ys : List B} (v : B → C) (h : ℕ → C) (d : B) (n : ℕ)
    → ((i : ℕ) → i < n → (y : B) (q : F) → Called g f (i, tt) y q → (v y ≡ h i) × (q ≡ f)) → IsFromFnResult g f ys n → map v ys ≡ row h n 0
made_seen {g = g} {f = f} {ys = ys} v h d n one c =
    let m : length (map v ys) ≡ n = length-map ys v ∙ c.long in
    ext_get_or (v d) (map v ys) (row h n 0) (m ∙ sym (row-length h n 0))
    (λ j l. let k : j < n = omega (arith, m) in get_or-map v ys j d (v d) (omega (arith, c.long)) ∙ made_at g f v h d n ys one n 0 (omega arith) c.each j j k (omega arith) ∙ sym (row_at h (v d) n j k))

pub made_row : {F B : Type 0} {g : Mut F (ℕ × Unit {0}) B} {f : F} {ys : List B} (h : ℕ → B) (d : B) (n : ℕ)
    → ((i : ℕ) → i < n → (y : B) (q : F) → Called g f (i, tt) y q → (y ≡ h i) × (q ≡ f)) → IsFromFnResult g f ys n → ys ≡ row h n 0
made_row {ys = ys} h d n one c = sym (map-id ys) ∙ made_seen (λ x. x) h d n one c

-- so is one that `map` made of another
module _ {F A B : Type 0} (g : Mut F (A × Unit {0}) B) (f : F) (h : A → B) (a : A) (d : B) (xs : List A) (ys : List B)
    (one : (x : A) (y : B) (q : F) → Called g f (x, tt) y q → (y ≡ h x) × (q ≡ f)) where
  mapped_at : (m i : ℕ) → MapsFrom g f xs ys i m → (j k : ℕ) → j < m → k ≡ i + j → get_or ys k d ≡ h (get_or xs k a)
  mapped_at zero i c j k l e = absurd (omega arith)
  mapped_at (suc m) i c zero k l e = let z : i ≡ k = omega arith in rw (← z) (c.4.1 d ∙ (one c.1 c.2 c.0 c.5).0 ∙ ap h (sym (c.3.1 a)))
  mapped_at (suc m) i c (suc j) k l e =
      let r : MapsFrom g f xs ys (i + 1) m = subst (λ (q : F). MapsFrom g q xs ys (i + 1) m) (one c.1 c.2 c.0 c.5).1 c.6 in
      mapped_at m (i + 1) r j k (omega arith) (omega arith)

pub mapped_row : {F A B : Type 0} {g : Mut F (A × Unit {0}) B} {f : F} {xs : List A} {ys : List B} (h : A → B) (a : A) (d : B) (n : ℕ)
    → ((x : A) (y : B) (q : F) → Called g f (x, tt) y q → (y ≡ h x) × (q ≡ f)) → IsMapOf g f xs ys n → ys ≡ row (λ i. h (get_or xs i a)) n 0
mapped_row {B = B} {g = g} {f = f} {xs = xs} {ys = ys} h a d n one c =
    let r : ℕ → B = λ i. h (get_or xs i a) in
    ext_get_or d ys (row r n 0) (c.long ∙ sym (row-length r n 0))
    (λ j l. let k : j < n = omega (arith, c.long) in mapped_at g f h a d xs ys one n 0 c.each j j k (omega arith) ∙ sym (row_at r d n j k))
