-- The numbers of a block as those of a call, and back: the one undoes the other, by one law for both ways.
use Prim.{Unit}
use Prim.Native.Nat.{ℕ, zero, suc, ◌≤◌}
use mathlib.Core.Path.{◌≡◌, refl, ap, ◌∙◌}
use mathlib.Core.Bool.{false}
use mathlib.Core.List.{List, [], ◌∷◌}
use native.Mathlib.Omega.{arith}
use lib.Dec.{eqb, ltb}
use lib.ListN.{length}
use borrow.Author.Tests.{eqb-false, ltb-false}
use Rattle.blocks.specs.Lists.{task_of, address_of, has_repeat}
use Rattle.blocks.specs.Types.{Use, same, task, beside, one_through, through, beside_in, is_unlisted, unlisted}
use Rattle.blocks.proofs.Forms.{NoBeside, Alone}
use Rattle.blocks.proofs.Places.{neither, place_found, place-back}

pub through-length : (f : ℕ → ℕ) (g : ℕ) (us : List Use) (xs : List ℕ) → length xs ≡ length us
    → length (through f g us xs) ≡ length us
through-length f g [] xs h = refl
through-length f g (u ∷ us) [] h = absurd (omega arith)
through-length f g (u ∷ us) (x ∷ xs) h = ap suc (through-length f g us xs (omega arith))

-- each task's number comes back
abbrev Backs : (ℕ → ℕ) → (ℕ → ℕ) → Use → ℕ → Type 0
Backs f b same x = Unit {0}
Backs f b task x = b (f x) ≡ x
Backs f b beside x = Unit {0}

abbrev pub AllBack : (ℕ → ℕ) → (ℕ → ℕ) → List Use → List ℕ → Type 0
AllBack f b [] xs = Unit {0}
AllBack f b (u ∷ us) [] = Unit {0}
AllBack f b (u ∷ us) (x ∷ xs) = Backs f b u x × AllBack f b us xs

-- what is given beside is what stood there
abbrev Gives : ℕ → Use → ℕ → Type 0
Gives g same x = Unit {0}
Gives g task x = Unit {0}
Gives g beside x = g ≡ x

abbrev AllGive : ℕ → List Use → List ℕ → Type 0
AllGive g [] xs = Unit {0}
AllGive g (u ∷ us) [] = Unit {0}
AllGive g (u ∷ us) (x ∷ xs) = Gives g u x × AllGive g us xs

none-gives : (g : ℕ) (us : List Use) (xs : List ℕ) → NoBeside us → AllGive g us xs
none-gives g [] xs n = tt
none-gives g (same ∷ us) [] n = tt
none-gives g (same ∷ us) (x ∷ xs) n = (tt, none-gives g us xs n)
none-gives g (task ∷ us) [] n = tt
none-gives g (task ∷ us) (x ∷ xs) n = (tt, none-gives g us xs n)
none-gives g (beside ∷ us) xs n = absurd n

gives : (us : List Use) (xs : List ℕ) → Alone us → AllGive (beside_in us xs) us xs
gives [] xs n = tt
gives (same ∷ us) [] n = tt
gives (same ∷ us) (x ∷ xs) n = (tt, gives us xs n)
gives (task ∷ us) [] n = tt
gives (task ∷ us) (x ∷ xs) n = (tt, gives us xs n)
gives (beside ∷ us) [] n = tt
gives (beside ∷ us) (x ∷ xs) n = (refl, none-gives x us xs n)

back_one : (f b : ℕ → ℕ) (g h : ℕ) (u : Use) (x : ℕ) → Backs f b u x → Gives h u x → one_through b h u (one_through f g u x) ≡ x
back_one f b g h same x p q = refl
back_one f b g h task x p q = p
back_one f b g h beside x p q = q

back-all : (f b : ℕ → ℕ) (g h : ℕ) (us : List Use) (xs : List ℕ) → length xs ≡ length us → AllBack f b us xs → AllGive h us xs
    → through b h us (through f g us xs) ≡ xs
back-all f b g h [] [] n p q = refl
back-all f b g h [] (x ∷ xs) n p q = absurd (omega arith)
back-all f b g h (u ∷ us) [] n p q = absurd (omega arith)
back-all f b g h (u ∷ us) (x ∷ xs) n p q =
    ap (λ y. y ∷ through b h us (through f g us xs)) (back_one f b g h u x p.0 q.0)
    ∙ ap (λ ys. x ∷ ys) (back-all f b g h us xs (omega arith) p.1 q.1)

-- there and back, with what stood beside: the same numbers
pub there_back : (f b : ℕ → ℕ) (g : ℕ) (us : List Use) (xs : List ℕ) → Alone us → length xs ≡ length us → AllBack f b us xs
    → through b (beside_in us xs) us (through f g us xs) ≡ xs
there_back f b g us xs a n p = back-all f b g (beside_in us xs) us xs n p (gives us xs a)

-- ---- the two ways: a call's tasks come back where none is unlisted and the list has no repeat; a block's addresses come
-- back where none of its call's tasks is unlisted
task-back : (l : List ℕ) (t : ℕ) → has_repeat l ≡ false → (t ≡ 0 → ⊥) → t ≤ length l → task_of l (address_of l t) ≡ t
task-back l zero r n h = absurd (n refl)
task-back l (suc i) r n h = ap suc (place-back l i r (omega arith))

module _ (l : List ℕ) where
  pub calls_back : (us : List Use) (xs : List ℕ) → has_repeat l ≡ false → unlisted (length l) us xs ≡ false
      → AllBack (address_of l) (task_of l) us xs
  calls_back [] xs r e = tt
  calls_back (u ∷ us) [] r e = tt
  calls_back (u ∷ us) (x ∷ xs) r e =
      let q = neither (is_unlisted (length l) u x) (unlisted (length l) us xs) e in
      (one u q.0, calls_back us xs r q.1)
    where
      one : (u : Use) → is_unlisted (length l) u x ≡ false → Backs (address_of l) (task_of l) u x
      one same e = tt
      one task e =
          let q = neither (eqb x 0) (ltb (length l) x) e in
          task-back l x r (eqb-false x 0 q.0) (ltb-false (length l) x q.1)
      one beside e = tt

  pub blocks-back : (g : ℕ) (us : List Use) (xs : List ℕ) → unlisted (length l) us (through (task_of l) g us xs) ≡ false
      → AllBack (task_of l) (address_of l) us xs
  blocks-back g [] xs e = tt
  blocks-back g (u ∷ us) [] e = tt
  blocks-back g (u ∷ us) (x ∷ xs) e =
      let q = neither (is_unlisted (length l) u (one_through (task_of l) g u x)) (unlisted (length l) us (through (task_of l) g us xs)) e in
      (one u q.0, blocks-back g us xs q.1)
    where
      one : (u : Use) → is_unlisted (length l) u (one_through (task_of l) g u x) ≡ false → Backs (task_of l) (address_of l) u x
      one same e = tt
      one task e =
          let q = neither (eqb (task_of l x) 0) (ltb (length l) (task_of l x)) e in
          let h = ltb-false (length l) (task_of l x) q.1 in
          place_found x l (omega arith)
      one beside e = tt
