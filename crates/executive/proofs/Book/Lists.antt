-- The laws of the book's lists: what an entry added at the end and the first one for a task taken out do to them, and
-- to their agreement with the pool.
use mathlib.Core.Path.{◌≡◌, refl, sym, ap, ◌∙◌}
use mathlib.Core.Bool.{Bool, true, false, cond}
use mathlib.Core.List.{List, [], ◌∷◌, ◌++◌}
use Prim.Native.Nat.{ℕ, suc, ◌+◌, ◌≤◌, ◌<◌}
use native.Mathlib.Omega.{arith}
use borrow.Author.Tests.{eqb-true}
use lib.Dec.{eqb}
use lib.ListN.{length, get_or}
use Rattle.executive.specs.declared.Request.{Request}
use Rattle.executive.specs.Lists.{one, sum_of}
use Rattle.executive.specs.Places.{no_request}
use Rattle.executive.specs.Pool.{place_of, removed}
use Rattle.executive.specs.WellFormed.{targets_of}
use Rattle.executive.specs.Promises.EveryStart.{Asked, first_for, without_first, behind_all, Same, Agrees, times, all_for}
use Rattle.executive.proofs.Lists.Tests.{eqb_swap}

-- ---- one list behind another
pub all_append : (k : ℕ) (xs ys : List Asked) → all_for k (xs ++ ys) ≡ all_for k xs ++ all_for k ys
unfolding all_for
all_append k [] ys = refl
all_append k (x ∷ xs) ys = go (eqb k x.target) (all_append k xs ys)
  where
    go : (b : Bool) → all_for k (xs ++ ys) ≡ all_for k xs ++ all_for k ys
        → cond b (x ∷ all_for k (xs ++ ys)) (all_for k (xs ++ ys)) ≡ cond b (x ∷ all_for k xs) (all_for k xs) ++ all_for k ys
    go true ih = ap (λ (l : List Asked). x ∷ l) ih
    go false ih = ih

pub times-append : (i : ℕ) (xs ys : List Asked) → times i (xs ++ ys) ≡ times i xs + times i ys
unfolding times
times-append i [] ys = omega arith
times-append i (x ∷ xs) ys = omega (arith, times-append i xs ys)

-- ---- the first for task c is taken: it was the first of c's own, and every other task's are left alone
first_else : (k c : ℕ) (es : List Asked) → eqb k c ≡ false → all_for k (first_for c es) ≡ []
unfolding all_for first_for
first_else k c [] h = refl
first_else k c (e ∷ es) h = go (eqb c e.target) refl (first_else k c es h)
  where
    go : (b : Bool) → eqb c e.target ≡ b → all_for k (first_for c es) ≡ [] → all_for k (cond b (e ∷ []) (first_for c es)) ≡ []
    go true f ih = let g : eqb k e.target ≡ false = ap (eqb k) (sym (eqb-true c e.target f)) ∙ h in rw g refl
    go false f ih = ih

pub first-order : (k c : ℕ) (es : List Asked) → all_for k (first_for c es) ++ all_for k (without_first c es) ≡ all_for k es
unfolding all_for first_for without_first
first-order k c [] = refl
first-order k c (e ∷ es) = go (eqb c e.target) refl (eqb k e.target) refl (first-order k c es)
  where
    go : (b : Bool) → eqb c e.target ≡ b → (d : Bool) → eqb k e.target ≡ d
        → all_for k (first_for c es) ++ all_for k (without_first c es) ≡ all_for k es
        → all_for k (cond b (e ∷ []) (first_for c es)) ++ all_for k (cond b es (e ∷ without_first c es)) ≡ cond d (e ∷ all_for k es) (all_for k es)
    go true f true g ih = rw g refl
    go true f false g ih = rw g refl
    go false f true g ih =
        let n : eqb k c ≡ false = eqb_swap c k (ap (eqb c) (eqb-true k e.target g) ∙ f) in
        let z : all_for k (first_for c es) ≡ [] = first_else k c es n in
        rw (g, z) (ap (λ (l : List Asked). e ∷ l) (rw z at ih))
    go false f false g ih = rw g ih

pub first-times : (i c : ℕ) (es : List Asked) → times i (first_for c es) + times i (without_first c es) ≡ times i es
unfolding times first_for without_first
first-times i c [] = refl
first-times i c (e ∷ es) = go (eqb c e.target) (first-times i c es)
  where
    go : (b : Bool) → times i (first_for c es) + times i (without_first c es) ≡ times i es
        → times i (cond b (e ∷ []) (first_for c es)) + times i (cond b es (e ∷ without_first c es)) ≡ one (eqb i e.step) + times i es
    go true ih = omega arith
    go false ih = omega (arith, ih)

pub first-length : (c : ℕ) (es : List Asked) → length (first_for c es) + length (without_first c es) ≡ length es
unfolding first_for without_first
first-length c [] = refl
first-length c (e ∷ es) = go (eqb c e.target) (first-length c es)
  where
    go : (b : Bool) → length (first_for c es) + length (without_first c es) ≡ length es
        → length (cond b (e ∷ []) (first_for c es)) + length (cond b es (e ∷ without_first c es)) ≡ suc (length es)
    go true ih = omega arith
    go false ih = omega (arith, ih)

-- ---- a list that agrees with the pool: as long; added to at the end; with the first for c taken out of both
pub agrees-length : (es : List Asked) (rs : List Request) → Agrees es rs → length es ≡ length rs
agrees-length [] [] a = refl
agrees-length [] (r ∷ rs) a = absurd a
agrees-length (e ∷ es) [] a = absurd a
agrees-length (e ∷ es) (r ∷ rs) a = ap suc (agrees-length es rs a.1)

pub agrees-more : (es : List Asked) (rs : List Request) (e : Asked) (r : Request) → Agrees es rs → Same e r → Agrees (behind_all e es) (rs ++ (r ∷ []))
agrees-more [] [] e r a s = (s, tt)
agrees-more [] (x ∷ rs) e r a s = absurd a
agrees-more (x ∷ es) [] e r a s = absurd a
agrees-more (x ∷ es) (y ∷ rs) e r a s = (a.0, agrees-more es rs e r a.1 s)

alike : (c : ℕ) (e : Asked) (r : Request) → Same e r → eqb c e.target ≡ eqb c r.target.0
alike c e r s = ap (eqb c) s.target

pub agrees-less : (c : ℕ) (es : List Asked) (rs : List Request) → Agrees es rs → Agrees (without_first c es) (removed (place_of c rs) rs)
unfolding without_first place_of
agrees-less c [] [] a = tt
agrees-less c [] (r ∷ rs) a = absurd a
agrees-less c (e ∷ es) [] a = absurd a
agrees-less c (e ∷ es) (r ∷ rs) a = rw (alike c e r a.0) (go (eqb c r.target.0) (agrees-less c es rs a.1))
  where
    go : (b : Bool) → Agrees (without_first c es) (removed (place_of c rs) rs)
        → Agrees (cond b es (e ∷ without_first c es)) (removed (cond b 0 (suc (place_of c rs))) (r ∷ rs))
    go true ih = a.1
    go false ih = (a.0, ih)

-- the first for c is what stands at its place in the pool, and there is none where the pool has none
abbrev pub FirstIs : List Asked → ℕ → List Request → Type 0
FirstIs [] i rs = length rs ≤ i
FirstIs (e ∷ es) i rs = (es ≡ []) × (i < length rs) × Same e (get_or rs i no_request)

pub agrees_first : (c : ℕ) (es : List Asked) (rs : List Request) → Agrees es rs → FirstIs (first_for c es) (place_of c rs) rs
unfolding first_for place_of
agrees_first c [] [] a = omega arith
agrees_first c [] (r ∷ rs) a = absurd a
agrees_first c (e ∷ es) [] a = absurd a
agrees_first c (e ∷ es) (r ∷ rs) a = rw (alike c e r a.0) (go (eqb c r.target.0) (first_for c es) (agrees_first c es rs a.1))
  where
    go : (b : Bool) (xs : List Asked) → FirstIs xs (place_of c rs) rs → FirstIs (cond b (e ∷ []) xs) (cond b 0 (suc (place_of c rs))) (r ∷ rs)
    go true xs ih = (refl, omega arith, a.0)
    go false [] ih = omega (arith, ih)
    go false (x ∷ xs) ih = (ih.0, omega (arith, ih.1), ih.2)

-- where no request is for task k, none of the list is
pub agrees-none : (k : ℕ) (es : List Asked) (rs : List Request) → Agrees es rs → targets_of k rs ≡ 0 → all_for k es ≡ []
unfolding all_for sum_of
agrees-none k [] [] a z = refl
agrees-none k [] (r ∷ rs) a z = absurd a
agrees-none k (e ∷ es) [] a z = absurd a
agrees-none k (e ∷ es) (r ∷ rs) a z = rw (alike k e r a.0) (go (eqb k r.target.0) z (agrees-none k es rs a.1))
  where
    go : (b : Bool) → one b + targets_of k rs ≡ 0 → (targets_of k rs ≡ 0 → all_for k es ≡ []) → cond b (e ∷ all_for k es) (all_for k es) ≡ []
    go true z ih = absurd (omega arith)
    go false z ih = ih (omega arith)
