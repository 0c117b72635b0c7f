-- How far the first of a list that passes a test stands from its front, and whether there is one: what `position` and `any`
-- find in a slice is what the definitions of specs/ say.
use Prim.Native.Nat.{ℕ, suc, ◌+◌}
use mathlib.Core.Path.{◌≡◌, refl}
use mathlib.Core.Bool.{Bool, true, false, cond, not, ◌||◌}
use mathlib.Core.List.{List, [], ◌∷◌}
use native.Mathlib.Omega.{arith}
use borrow.Author.Tests.{ltb-true, ltb-false, leb-true, leb-false}
use denote.Param.Members.{Mut}
use denote.Ref.{Bor}
use lib.Dec.{leb, ltb}
use lib.ListN.{length}
use Rattle.std.specs.Prelude.{Some, None, Option}
use Rattle.std.specs.Option.{unwrap_or}
use Rattle.std.specs.declared.slice.Iter.{Iter}
use Rattle.std.specs.Fn.{Called}
use Rattle.std.specs.Iterator.{FindsPosition}
use Rattle.std.specs.List.{position, position_or_len, list_any}
use Rattle.std.specs.Slice.Iter.{iter_rest}
use Rattle.std.proofs.iter.Yields.{fronts}
use Rattle.std.proofs.lemmas.Iterator.{YieldsList-from_slice}
use Rattle.std.proofs.lemmas.Iterator.Search.{position_from_yields_List}
use Rattle.std.proofs.lemmas.List.Sums.{prefix_len-le-length}
use Rattle.executive.specs.Lists.{all_of, next_of}
use Rattle.executive.proofs.Lists.Chains.{next_of-is}

module _ {A : Type 0} (test : A → Bool) (xs : List A) where
  -- the place past the last where there is none
  or_past : unwrap_or (position test xs) (length xs) ≡ position_or_len test xs
  or_past = go (ltb (position_or_len test xs) (length xs)) refl
    where
      go : (b : Bool) → ltb (position_or_len test xs) (length xs) ≡ b → unwrap_or (cond b (Some (position_or_len test xs)) None) (length xs) ≡ position_or_len test xs
      go true e = refl
      go false e = let l = prefix_len-le-length (λ x. not (test x)) xs in let g = ltb-false _ _ e in omega arith

  -- `position(..)` of a slice, and `position(..).unwrap_or(xs.len())`
  module _ {F : Type 0} {g : Mut F (Bor A × Unit {0}) Bool} {s t : Iter A} {f : F} (r : Option ℕ) where
    pub position-slice : FindsPosition fronts g s f r t → iter_rest s ≡ xs
        → ((x : Bor A) (b : Bool) (q : F) → Called g f (x, tt) b q → (q ≡ f) × (b ≡ test x.now)) → r ≡ position test xs
    position-slice ran e k = position_from_yields_List _ _ _ _ ran (YieldsList-from_slice xs e) k

    pub place-slice : FindsPosition fronts g s f r t → iter_rest s ≡ xs
        → ((x : Bor A) (b : Bool) (q : F) → Called g f (x, tt) b q → (q ≡ f) × (b ≡ test x.now)) → unwrap_or r (length xs) ≡ position_or_len test xs
    place-slice ran e k = rw (position-slice ran e k) or_past

  -- the first that passes, numbered from 0
  pub place-next : position_or_len test xs ≡ next_of test 0 xs
  place-next = let e = next_of-is test 0 xs in omega arith

-- whether any passes: not all fail
pub any_is : {A : Type 0} (test : A → Bool) (xs : List A) → list_any test xs ≡ not (all_of (λ x. not (test x)) xs)
unfolding all_of
any_is test [] = refl
any_is test (x ∷ xs) = go (test x) (any_is test xs)
  where
    go : (b : Bool) → list_any test xs ≡ not (all_of (λ x. not (test x)) xs) → (b || list_any test xs) ≡ not (cond (not b) (all_of (λ x. not (test x)) xs) false)
    go true e = refl
    go false e = e

-- ---- one clause of a recursion that counts up to the first that passes
pub one_more : (b : Bool) (n : ℕ) → cond b 0 (suc n) ≡ cond b 0 (1 + n)
one_more true n = refl
one_more false n = omega arith

-- those that pass a test are counted, up to the first that passes the opposite one
pub until_less : (a b n : ℕ) → cond (leb a b) (suc n) 0 ≡ cond (ltb b a) 0 (1 + n)
until_less a b n = go (leb a b) refl (ltb b a) refl
  where
    go : (x : Bool) → leb a b ≡ x → (y : Bool) → ltb b a ≡ y → cond x (suc n) 0 ≡ cond y 0 (1 + n)
    go true e true f = absurd (omega (arith, leb-true _ _ e, ltb-true _ _ f))
    go true e false f = omega arith
    go false e true f = refl
    go false e false f = absurd (omega (arith, leb-false _ _ e, ltb-false _ _ f))

pub until_not_less : (a b n : ℕ) → cond (ltb a b) (suc n) 0 ≡ cond (leb b a) 0 (1 + n)
until_not_less a b n = go (ltb a b) refl (leb b a) refl
  where
    go : (x : Bool) → ltb a b ≡ x → (y : Bool) → leb b a ≡ y → cond x (suc n) 0 ≡ cond y 0 (1 + n)
    go true e true f = absurd (omega (arith, ltb-true _ _ e, leb-true _ _ f))
    go true e false f = omega arith
    go false e true f = refl
    go false e false f = absurd (omega (arith, ltb-false _ _ e, leb-false _ _ f))
