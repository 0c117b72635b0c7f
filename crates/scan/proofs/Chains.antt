-- What chains of iterators and maps of arrays give, in the words of the definitions.
use Prim.Native.Nat.{ℕ, zero, suc, ◌+◌}
use mathlib.Core.Path.{◌≡◌, refl, sym, ap, subst, ◌∙◌}
use mathlib.Core.Bool.{Bool, true, false, cond, ◌&&◌}
use mathlib.Core.List.{List, [], ◌∷◌, map}
use native.Mathlib.Omega.{arith}
use lib.ListN.{length, drop, drop_of_length-le}
use denote.Param.Members.{Mut, Called}
use Rattle.std.specs.Array.{MapsFrom, IsMapOf}
use Rattle.std.specs.List.{count_by, list_all}
use Rattle.std.proofs.lemmas.List.Recursion.{is_count_by}
use Rattle.executive.specs.Lists.{one, all_of, sum_of}
use Rattle.scan.specs.declared.Entry.{Entry}
use Rattle.scan.specs.Entries.{count_of}
use Rattle.scan.proofs.Loops.{opened}

-- a count
module _ (counts : Entry → Bool) where
  pub counted : (es : List Entry) → count_by counts es ≡ count_of counts es
  unfolding sum_of
  counted es = sym (is_count_by (count_of counts) counts none step es)
    where
      none : count_of counts [] ≡ 0
      none = refl

      step : (x : Entry) (xs : List Entry) → count_of counts (x ∷ xs) ≡ cond (counts x) (1 + count_of counts xs) (count_of counts xs)
      step x xs = go (counts x)
        where
          go : (b : Bool) → one b + count_of counts xs ≡ cond b (1 + count_of counts xs) (count_of counts xs)
          go true = refl
          go false = omega arith

-- a test of all
pub tested : (test : Entry → Bool) (es : List Entry) → list_all test es ≡ all_of test es
unfolding all_of
tested test [] = refl
tested test (x ∷ xs) = go (test x) (list_all test xs) ∙ ap (λ (b : Bool). cond (test x) b false) (tested test xs)
  where
    go : (a b : Bool) → (a && b) ≡ cond a b false
    go true b = refl
    go false b = refl

-- an array that is mapped by a closure that changes nothing
module _ {F A B : Type 0} (g : Mut F (A × Unit {0}) B) (h : A → B) (f : F)
    (step : (x : A) (y : B) (q : F) → Called g f (x, tt) y q → (y ≡ h x) × (q ≡ f)) (xs : List A) (ys : List B) where
  go : (i k : ℕ) → i + k ≡ length xs → i + k ≡ length ys → MapsFrom g f xs ys i k → drop i ys ≡ map h (drop i xs)
  go i zero a b m = rw (drop_of_length-le xs {i = i} (omega arith), drop_of_length-le ys {i = i} (omega arith)) refl
  go i (suc k) a b (q, x, y, ex, ey, c, rest) =
      let s = step x y q c in
      let r = go (i + 1) k (omega arith) (omega arith) (subst (λ (p : F). MapsFrom g p xs ys (i + 1) k) s.1 rest) in
      opened y ys i (omega arith) ∙ (λ j. (ey.0 ∙ s.0) j ∷ r j) ∙ sym (ap (map h) (opened x xs i (omega arith) ∙ (λ j. ex.0 j ∷ drop (i + 1) xs)))

  pub mapped : (n : ℕ) → n ≡ length xs → IsMapOf g f xs ys n → ys ≡ map h xs
  mapped n e m = go 0 n (omega arith) (omega (arith, m.long)) m.each
