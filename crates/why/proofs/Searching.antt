-- The first of a list that passes a test: that the library's search finds it, and that it is the only one.
use Prim.Native.Nat.{ℕ, zero, suc, ◌+◌, ◌-◌, ◌≤◌, ◌<◌}
use mathlib.Core.Path.{◌≡◌, refl, sym, ap, ◌∙◌}
use mathlib.Core.Bool.{Bool, true, false, cond, not}
use mathlib.Core.List.{List, [], ◌∷◌}
use native.Mathlib.Omega.{arith}
use borrow.Author.Tests.{ltb-true, ltb-false}
use lib.Dec.{ltb}
use lib.ListN.{length, get_or}
use Rattle.std.specs.declared.option.Option.{Option}
use Rattle.std.specs.declared.option.Option.TheVariants.{None, Some}
use Rattle.std.specs.List.{position_or_len}
use Rattle.std.specs.Option.{MatchOption, unwrap_or}
use Rattle.std.proofs.lemmas.List.Sums.{prefix_len-le-length}
use Rattle.executive.specs.Lists.{one, sum_of, next_of}

-- by cases of a test
pub decide : {P : Type 0} (b : Bool) → (b ≡ true → P) → (b ≡ false → P) → P
decide true f g = f refl
decide false f g = g refl

pub never : true ≡ false → ⊥
never e = let z : ◌≡◌ {A = ℕ} 0 1 = cc in omega arith

-- ---- the library's search
module _ {A : Type 0} (t : A → Bool) where
  few : (l : List A) → position_or_len t l ≤ length l
  few l = prefix_len-le-length (λ x. not (t x)) l

  counted : (b : ℕ) (l : List A) → position_or_len t l + b ≡ next_of t b l
  unfolding next_of
  counted b [] = omega arith
  counted b (x ∷ xs) = go (t x) (counted (suc b) xs)
    where
      go : (c : Bool) → position_or_len t xs + suc b ≡ next_of t (suc b) xs → cond (not c) (1 + position_or_len t xs) 0 + b ≡ cond c b (next_of t (suc b) xs)
      go true h = omega arith
      go false h = omega (arith, h)

  module _ (l : List A) (r : Option ℕ) (e : r ≡ cond (ltb (position_or_len t l) (length l)) (Some (position_or_len t l)) None) where
    -- with the list's length for none, counted from b
    pub next-or : (b n m : ℕ) → n ≡ length l → m ≡ unwrap_or r n + b → m ≡ next_of t b l
    next-or b n m h g = g ∙ ap (λ i. i + b) (rw e (go (ltb (position_or_len t l) (length l)) refl)) ∙ counted b l
      where
        go : (c : Bool) → ltb (position_or_len t l) (length l) ≡ c → unwrap_or (cond c (Some (position_or_len t l)) None) n ≡ position_or_len t l
        go true y = refl
        go false y = omega (arith, few l, ltb-false _ _ y)

    -- as an answer, f being how an index is told
    pub next-where : (b : ℕ) (f : ℕ → ℕ) → ((i : ℕ) → f i ≡ i + b) → MatchOption r (next_of t b l ≡ f (length l)) (λ i. (i < length l) × (next_of t b l ≡ f i))
    next-where b f h = rw e (go (ltb (position_or_len t l) (length l)) refl)
      where
        go : (c : Bool) → ltb (position_or_len t l) (length l) ≡ c
            → MatchOption (cond c (Some (position_or_len t l)) None) (next_of t b l ≡ f (length l)) (λ i. (i < length l) × (next_of t b l ≡ f i))
        go true y = (ltb-true _ _ y, sym (counted b l) ∙ sym (h _))
        go false y = let z : length l ≡ position_or_len t l = omega (arith, few l, ltb-false _ _ y) in sym (counted b l) ∙ sym (h _) ∙ ap f (sym z)

module _ {A : Type 0} (t : A → Bool) (d : A) where
  -- ---- how many pass: with some, the first is one of them; with at most one, there is no other
  abbrev pub passing : List A → ℕ
  passing l = sum_of (λ (x : A). one (t x)) l

  -- the first that passes, numbered from b: it is in the list and passes, or it is past the list's end
  pub next-from : (b : ℕ) (l : List A) → (b ≤ next_of t b l) × (next_of t b l ≤ b + length l)
  unfolding next_of
  next-from b [] = (omega arith, omega arith)
  next-from b (x ∷ xs) =
      decide (t x) (λ e. rw e (omega arith, omega arith))
      (λ e. let ih = next-from (suc b) xs in rw e (omega (arith, ih.0), omega (arith, ih.1)))

  pub next-passes : (b : ℕ) (l : List A) → next_of t b l < b + length l → t (get_or l (next_of t b l - b) d) ≡ true
  unfolding next_of
  next-passes b [] h = absurd (omega arith)
  next-passes b (x ∷ xs) h =
      decide (t x) (λ e. let z : b - b ≡ 0 = omega arith in rw (e, z) e)
      (λ e.
      let n = next_of t (suc b) xs in
      let f = (next-from (suc b) xs).0 in
      let g : n < b + suc (length xs) = rw e at h in
      let z : n - b ≡ suc (n - suc b) = omega arith in
      rw (e, z) (next-passes (suc b) xs (omega arith)))

  pub some_next : (b : ℕ) (l : List A) → 0 < passing l → next_of t b l < b + length l
  unfolding next_of sum_of
  some_next b [] h = absurd (omega arith)
  some_next b (x ∷ xs) h =
      decide (t x) (λ e. rw e (omega arith))
      (λ e. let g : 0 < 0 + passing xs = rw e at h in rw e (omega (arith, some_next (suc b) xs (omega arith))))

  pub passes-some : (l : List A) (i : ℕ) → i < length l → t (get_or l i d) ≡ true → 0 < passing l
  unfolding sum_of
  passes-some [] i h e = absurd (omega arith)
  passes-some (x ∷ xs) zero h e = rw e (omega arith)
  passes-some (x ∷ xs) (suc i) h e = omega (arith, passes-some xs i (omega arith) e)

  pub passes-once : (l : List A) (i j : ℕ) → passing l ≤ 1 → i < length l → j < length l → t (get_or l i d) ≡ true → t (get_or l j d) ≡ true → i ≡ j
  unfolding sum_of
  passes-once [] i j p h g e f = absurd (omega arith)
  passes-once (x ∷ xs) zero zero p h g e f = refl
  passes-once (x ∷ xs) zero (suc j) p h g e f =
      let q : 1 + passing xs ≤ 1 = rw e at p in absurd (omega (arith, passes-some xs j (omega arith) f))
  passes-once (x ∷ xs) (suc i) zero p h g e f =
      let q : 1 + passing xs ≤ 1 = rw f at p in absurd (omega (arith, passes-some xs i (omega arith) e))
  passes-once (x ∷ xs) (suc i) (suc j) p h g e f = ap suc (passes-once xs i j (omega arith) (omega arith) (omega arith) e f)
