-- The laws of the book's lists, over any element: the first that passes a test taken out, one put in behind, and those of one
-- kind picked out.
use mathlib.Core.Path.{◌≡◌, refl, sym, ap, ◌∙◌}
use mathlib.Core.Bool.{Bool, true, false, cond}
use mathlib.Core.List.{List, [], ◌∷◌, ◌++◌, map, append-nil}
use Prim.Native.Nat.{ℕ, suc, ◌+◌, ◌≤◌, ◌<◌}
use native.Mathlib.Omega.{arith}
use lib.ListN.{length}
use Rattle.executive.specs.Lists.{one, sum_of, next_of}
use Rattle.executive.specs.Queue.{behind}
use Rattle.executive.specs.Pool.{removed}
use Rattle.executive.specs.Messages.{put_behind}
use Rattle.executive.specs.Letters.{first_that, but_first, all_that}
use Rattle.executive.proofs.Lists.Tests.{false_not_true, Le, le-no}
use Rattle.executive.proofs.queue.Law.{behind-is}
use Rattle.executive.proofs.messages.Lines.{next-suc}

module _ {A : Type 0} (f : A → Bool) where
  -- ---- the first that passes, and all but that
  pub removed-first : (xs : List A) → removed (next_of f 0 xs) xs ≡ but_first f xs
  unfolding next_of but_first
  removed-first [] = refl
  removed-first (x ∷ xs) = go (f x) (removed-first xs)
    where
      go : (b : Bool) → removed (next_of f 0 xs) xs ≡ but_first f xs → removed (cond b 0 (next_of f 1 xs)) (x ∷ xs) ≡ cond b xs (x ∷ but_first f xs)
      go true ih = refl
      go false ih = rw (next-suc f 0 xs) (ap (λ (l : List A). x ∷ l) ih)

  pub first-few : (xs : List A) → length (first_that f xs) ≤ 1
  unfolding first_that
  first-few [] = omega arith
  first-few (x ∷ xs) = go (f x) (first-few xs)
    where
      go : (b : Bool) → length (first_that f xs) ≤ 1 → length (cond b (x ∷ []) (first_that f xs)) ≤ 1
      go true ih = omega arith
      go false ih = ih

  pub first-sum : (g : A → ℕ) (xs : List A) → sum_of g (first_that f xs) + sum_of g (but_first f xs) ≡ sum_of g xs
  unfolding first_that but_first sum_of
  first-sum g [] = refl
  first-sum g (x ∷ xs) = go (f x) (first-sum g xs)
    where
      go : (b : Bool) → sum_of g (first_that f xs) + sum_of g (but_first f xs) ≡ sum_of g xs
          → sum_of g (cond b (x ∷ []) (first_that f xs)) + sum_of g (cond b xs (x ∷ but_first f xs)) ≡ g x + sum_of g xs
      go true ih = omega arith
      go false ih = omega (arith, ih)

  pub first-length : (xs : List A) → length (first_that f xs) + length (but_first f xs) ≡ length xs
  unfolding first_that but_first
  first-length [] = refl
  first-length (x ∷ xs) = go (f x) (first-length xs)
    where
      go : (b : Bool) → length (first_that f xs) + length (but_first f xs) ≡ length xs
          → length (cond b (x ∷ []) (first_that f xs)) + length (cond b xs (x ∷ but_first f xs)) ≡ suc (length xs)
      go true ih = omega arith
      go false ih = omega (arith, ih)

  -- ---- all that pass
  pub all_append : (xs ys : List A) → all_that f (xs ++ ys) ≡ all_that f xs ++ all_that f ys
  unfolding all_that
  all_append [] ys = refl
  all_append (x ∷ xs) ys = go (f x) (all_append xs ys)
    where
      go : (b : Bool) → all_that f (xs ++ ys) ≡ all_that f xs ++ all_that f ys
          → cond b (x ∷ all_that f (xs ++ ys)) (all_that f (xs ++ ys)) ≡ cond b (x ∷ all_that f xs) (all_that f xs) ++ all_that f ys
      go true ih = ap (λ (l : List A). x ∷ l) ih
      go false ih = ih

  pub none_passes : (xs : List A) → sum_of (λ (x : A). one (f x)) xs ≡ 0 → all_that f xs ≡ []
  unfolding all_that sum_of
  none_passes [] z = refl
  none_passes (x ∷ xs) z = go (f x) z (none_passes xs)
    where
      go : (b : Bool) → one b + sum_of (λ (x : A). one (f x)) xs ≡ 0 → (sum_of (λ (x : A). one (f x)) xs ≡ 0 → all_that f xs ≡ [])
          → cond b (x ∷ all_that f xs) (all_that f xs) ≡ []
      go true z ih = absurd (omega arith)
      go false z ih = ih (omega arith)

-- ---- those of one kind g, where the test f says the same of all of that kind: the first that passes f comes first
module _ {A : Type 0} (f g : A → Bool) (same : (x y : A) → g x ≡ true → g y ≡ true → f x ≡ f y) where
  none_first : (x : A) → g x ≡ true → f x ≡ false → (xs : List A) → all_that g (first_that f xs) ≡ []
  unfolding all_that first_that
  none_first x gx fx [] = refl
  none_first x gx fx (y ∷ xs) = go (f y) refl (none_first x gx fx xs)
    where
      no : (b : Bool) → g y ≡ b → f y ≡ true → cond b (y ∷ []) [] ≡ []
      no true gy fy = false_not_true (sym fx ∙ same x y gx gy ∙ fy)
      no false gy fy = refl

      go : (b : Bool) → f y ≡ b → all_that g (first_that f xs) ≡ [] → all_that g (cond b (y ∷ []) (first_that f xs)) ≡ []
      go true fy ih = no (g y) refl fy
      go false fy ih = ih

  pub first_in_order : (xs : List A) → all_that g (first_that f xs) ++ all_that g (but_first f xs) ≡ all_that g xs
  unfolding all_that first_that but_first
  first_in_order [] = refl
  first_in_order (x ∷ xs) = go (f x) refl (g x) refl (first_in_order xs)
    where
      go : (b : Bool) → f x ≡ b → (d : Bool) → g x ≡ d → all_that g (first_that f xs) ++ all_that g (but_first f xs) ≡ all_that g xs
          → all_that g (cond b (x ∷ []) (first_that f xs)) ++ all_that g (cond b xs (x ∷ but_first f xs)) ≡ cond d (x ∷ all_that g xs) (all_that g xs)
      go true fx true gx ih = rw gx refl
      go true fx false gx ih = rw gx refl
      go false fx true gx ih =
          let z : all_that g (first_that f xs) ≡ [] = none_first x gx fx xs in
          rw (gx, z) (ap (λ (l : List A). x ∷ l) (rw z at ih))
      go false fx false gx ih = rw gx ih

-- ---- one put in behind all of an equal or a higher number
-- none has a higher number than n; the line descends
abbrev pub AllAtMost : {A : Type 0} → (A → ℕ) → ℕ → List A → Type 0
AllAtMost f n [] = Unit {0}
AllAtMost f n (x ∷ xs) = (f x ≤ n) × AllAtMost f n xs

abbrev pub Descends : {A : Type 0} → (A → ℕ) → List A → Type 0
Descends f [] = Unit {0}
Descends f (x ∷ xs) = AllAtMost f (f x) xs × Descends f xs

-- those of one kind, which have one number: the one put in comes behind the others of its kind
module _ {A : Type 0} (f : A → ℕ) (g : A → Bool) (same : (x y : A) → g x ≡ true → g y ≡ true → f x ≡ f y) where
  clash-eq : (x y : A) → g x ≡ true → g y ≡ true → f y < f x → ⊥
  clash-eq x y gx gy h = omega (arith, same x y gx gy)

  lower-none : (x : A) → g x ≡ true → (n : ℕ) → n < f x → (xs : List A) → AllAtMost f n xs → all_that g xs ≡ []
  unfolding all_that
  lower-none x gx n h [] a = refl
  lower-none x gx n h (y ∷ ys) a = go (g y) refl (lower-none x gx n h ys a.1)
    where
      go : (b : Bool) → g y ≡ b → all_that g ys ≡ [] → cond b (y ∷ all_that g ys) (all_that g ys) ≡ []
      go true gy ih = absurd (clash-eq x y gx gy (omega (arith, a.0)))
      go false gy ih = ih

  pub put_in_order : (x : A) (xs : List A) → Descends f xs → all_that g (put_behind f x xs) ≡ all_that g xs ++ all_that g (x ∷ [])
  unfolding all_that put_behind
  put_in_order x [] d = refl
  put_in_order x (y ∷ ys) d = go (behind (f x) (f y)) (behind-is (f x) (f y)) (g x) refl (g y) refl (put_in_order x ys d.1)
    where
      go : (b : Bool) → Le (f x) (f y) b → (e : Bool) → g x ≡ e → (c : Bool) → g y ≡ c
          → all_that g (put_behind f x ys) ≡ all_that g ys ++ cond (g x) (x ∷ []) []
          → all_that g (cond b (y ∷ put_behind f x ys) (x ∷ y ∷ ys)) ≡ cond (g y) (y ∷ all_that g ys) (all_that g ys) ++ cond (g x) (x ∷ []) []
      go true l e gx true gy ih = rw gy (ap (λ (l : List A). y ∷ l) ih)
      go true l e gx false gy ih = rw gy ih
      go false l false gx c gy ih = rw gx (sym (append-nil (all_that g (y ∷ ys))))
      go false (le-no h) true gx c gy ih =
          let z : all_that g (y ∷ ys) ≡ [] = lower-none x gx (f y) h (y ∷ ys) (omega arith, d.0) in
          rw (gx, z) refl

-- ---- seen through a function: the test and the number are those of what is seen
module _ {A B : Type 0} (h : A → B) where
  pub map_but_first : (f : B → Bool) (xs : List A) → map h (but_first (λ (a : A). f (h a)) xs) ≡ but_first f (map h xs)
  unfolding but_first
  map_but_first f [] = refl
  map_but_first f (x ∷ xs) = go (f (h x)) (map_but_first f xs)
    where
      go : (b : Bool) → map h (but_first (λ (a : A). f (h a)) xs) ≡ but_first f (map h xs)
          → map h (cond b xs (x ∷ but_first (λ (a : A). f (h a)) xs)) ≡ cond b (map h xs) (h x ∷ but_first f (map h xs))
      go true ih = refl
      go false ih = ap (λ (l : List B). h x ∷ l) ih

  pub map-sum : (g : B → ℕ) (xs : List A) → sum_of (λ (a : A). g (h a)) xs ≡ sum_of g (map h xs)
  unfolding sum_of
  map-sum g [] = refl
  map-sum g (x ∷ xs) = ap (λ (n : ℕ). g (h x) + n) (map-sum g xs)

  pub map-long : (xs : List A) → length (map h xs) ≡ length xs
  map-long [] = refl
  map-long (x ∷ xs) = ap suc (map-long xs)

  pub map_descends : (f : B → ℕ) (xs : List A) → Descends f (map h xs) → Descends (λ (a : A). f (h a)) xs
  map_descends f [] d = tt
  map_descends f (x ∷ xs) d = (most (f (h x)) xs d.0, map_descends f xs d.1)
    where
      most : (n : ℕ) (ys : List A) → AllAtMost f n (map h ys) → AllAtMost (λ (a : A). f (h a)) n ys
      most n [] a = tt
      most n (y ∷ ys) a = (a.0, most n ys a.1)
