-- What passes a test, first to last: how many, that all of it passes, what a line at the front of an array has of it, and the
-- loop that closes it up.
use Prim.Native.Nat.{ℕ, zero, suc, ◌+◌, ◌≤◌, ◌<◌}
use mathlib.Core.Path.{◌≡◌, refl, sym, ap, ◌∙◌}
use mathlib.Core.Bool.{Bool, true, false, cond}
use mathlib.Core.List.{List, [], ◌∷◌, ◌++◌, append-nil}
use native.Mathlib.Omega.{arith}
use native.Mathlib.Numerals.{add-one}
use lib.ListN.{length, take, set, get_or}
use lib.Seq.{take-suc, take_all}
use Rattle.executive.specs.Lists.{all_of, pad}
use Rattle.executive.specs.Letters.{all_that}
use Rattle.executive.proofs.Assured.{pad-more, take-le}

module _ {A : Type 0} (f : A → Bool) where
  pub that_length : (xs : List A) → length (all_that f xs) ≤ length xs
  unfolding all_that
  that_length [] = omega arith
  that_length (x ∷ xs) = go (f x) (that_length xs)
    where
      go : (b : Bool) → length (all_that f xs) ≤ length xs → length (cond b (x ∷ all_that f xs) (all_that f xs)) ≤ suc (length xs)
      go true h = omega (arith, h)
      go false h = omega (arith, h)

  -- all of it passes; and another test that all passed
  pub that_passes : (xs : List A) → all_of f (all_that f xs) ≡ true
  unfolding all_that all_of
  that_passes [] = refl
  that_passes (x ∷ xs) = go (f x) refl (that_passes xs)
    where
      go : (b : Bool) → f x ≡ b → all_of f (all_that f xs) ≡ true → all_of f (cond b (x ∷ all_that f xs) (all_that f xs)) ≡ true
      go true e h = rw e h
      go false e h = h

  -- where all pass, it is the list
  pub that_same : (xs : List A) → all_of f xs ≡ true → all_that f xs ≡ xs
  unfolding all_that all_of
  that_same [] h = refl
  that_same (x ∷ xs) h = go (f x) h (that_same xs)
    where
      go : (b : Bool) → cond b (all_of f xs) false ≡ true → (all_of f xs ≡ true → all_that f xs ≡ xs) → cond b (x ∷ all_that f xs) (all_that f xs) ≡ x ∷ xs
      go true h ih = ap (λ (l : List A). x ∷ l) (ih h)
      go false h ih = absurd (let z : ◌≡◌ {A = ℕ} 0 1 = cc in omega arith)

  pub that_append : (xs ys : List A) → all_that f (xs ++ ys) ≡ all_that f xs ++ all_that f ys
  unfolding all_that
  that_append [] ys = refl
  that_append (x ∷ xs) ys = go (f x) (that_append xs ys)
    where
      go : (b : Bool) → all_that f (xs ++ ys) ≡ all_that f xs ++ all_that f ys
          → cond b (x ∷ all_that f (xs ++ ys)) (all_that f (xs ++ ys)) ≡ cond b (x ∷ all_that f xs) (all_that f xs) ++ all_that f ys
      go true ih = ap (λ (l : List A). x ∷ l) ih
      go false ih = ih

  -- free places do not pass: of an array that a line stands in, it is the line's
  pub that_padded : (d : A) → f d ≡ false → (n : ℕ) (xs : List A) → all_that f (pad n d xs) ≡ all_that f xs
  unfolding all_that pad
  that_padded d e zero xs = refl
  that_padded d e (suc n) [] = rw e (that_padded d e n [])
  that_padded d e (suc n) (x ∷ xs) = ap (λ (l : List A). cond (f x) (x ∷ l) l) (that_padded d e n xs)

  -- ---- the loop that closes up what passes, of the array p of n places, laid over free places d
  module _ (d : A) (n : ℕ) (p : List A) (l : length p ≡ n) where
    abbrev passed : ℕ → List A
    passed i = all_that f (take i p)

    pub passed-few : (i : ℕ) → i ≤ n → length (passed i) ≤ i
    passed-few i h = let z = that_length (take i p) in let y = take-le i p in omega arith

    step : (i : ℕ) → i < n → passed (i + 1) ≡ passed i ++ all_that f (get_or p i d ∷ [])
    step i h = rw (add-one, take-suc p i d (omega arith)) (that_append (take i p) (get_or p i d ∷ []))

    -- one that passes, one that does not, and the end
    pub passed-more : (i : ℕ) → i < n → f (get_or p i d) ≡ true
        → (set (pad n d (passed i)) (length (passed i)) (get_or p i d) ≡ pad n d (passed (i + 1))) × (length (passed i) + 1 ≡ length (passed (i + 1)))
    unfolding all_that
    passed-more i h e =
        let z : passed (i + 1) ≡ passed i ++ (get_or p i d ∷ []) = step i h ∙ rw e refl in
        (pad-more d n (passed i) (get_or p i d) (omega (arith, passed-few i (omega arith))) ∙ ap (pad n d) (sym z), rw z (sym (snoc (passed i) (get_or p i d))))
      where
        snoc : (xs : List A) (x : A) → length (xs ++ (x ∷ [])) ≡ length xs + 1
        snoc [] x = refl
        snoc (y ∷ ys) x = omega (arith, snoc ys x)

    pub passed-not : (i : ℕ) → i < n → f (get_or p i d) ≡ false → passed (i + 1) ≡ passed i
    unfolding all_that
    passed-not i h e = step i h ∙ rw e (append-nil (passed i))

    pub passed-end : (i : ℕ) → n ≤ i → passed i ≡ all_that f p
    passed-end i h = ap (all_that f) (take_all i p (omega arith))
