-- The first of some refusals: what its number says of the list, and what the list says of its number.
use Prim.Native.Nat.{ℕ, zero, suc, ◌<◌}
use mathlib.Core.Path.{◌≡◌, refl, sym, ap, ◌∙◌}
use mathlib.Core.Logic.{◌≢◌}
use mathlib.Core.Bool.{Bool, true, false, cond}
use mathlib.Core.List.{List, [], ◌∷◌}
use native.Mathlib.Omega.{arith}
use lib.ListN.{get_or}
use Rattle.records.specs.Firsts.{Refusal, when, first_of, FirstAt, Decides, Never}

abbrev blank : Refusal
blank = when 0 false

-- the first of a list is given no number: its condition does not hold
pub first-none : (n : ℕ) (b : Bool) (rs : List Refusal) → 0 < n → first_of (when n b ∷ rs) ≡ 0 → (b ≡ false) × (first_of rs ≡ 0)
unfolding first_of
first-none n true rs h e = absurd (omega arith)
first-none n false rs h e = (refl, e)

-- a number that no refusal has is never given
pub first-not : (m : ℕ) (rs : List Refusal) → m ≢ 0 → Never m rs → first_of rs ≢ m
unfolding first_of
first-not m [] z n e = z (sym e)
first-not m (r ∷ rs) z n e = go r.given e (first-not m rs z n.1)
  where
    go : (b : Bool) → cond b r.number (first_of rs) ≡ m → first_of rs ≢ m → ⊥
    go true e ih = n.0 e
    go false e ih = ih e

none-given : (rs : List Refusal) → Never 0 rs → first_of rs ≡ 0 → (i : ℕ) → (get_or rs i blank).given ≡ false
unfolding first_of
none-given [] n e i = refl
none-given (r ∷ rs) n e i = go r.given refl e i (none-given rs n.1)
  where
    go : (b : Bool) → r.given ≡ b → cond b r.number (first_of rs) ≡ 0 → (i : ℕ)
        → (first_of rs ≡ 0 → (i : ℕ) → (get_or rs i blank).given ≡ false) → (get_or (r ∷ rs) i blank).given ≡ false
    go true f e i ih = absurd (n.0 e)
    go false f e zero ih = f
    go false f e (suc i) ih = ih e i

none_first : (rs : List Refusal) → ((i : ℕ) → (get_or rs i blank).given ≡ false) → first_of rs ≡ 0
unfolding first_of
none_first [] h = refl
none_first (r ∷ rs) h = ap (λ (b : Bool). cond b r.number (first_of rs)) (h 0) ∙ none_first rs (λ i. h (suc i))

first-at : (rs : List Refusal) (i : ℕ) → FirstAt rs i → first_of rs ≡ (get_or rs i blank).number
unfolding first_of
first-at [] i f = absurd (omega (arith, f.there))
first-at (r ∷ rs) zero f = ap (λ (b : Bool). cond b r.number (first_of rs)) f.holds
first-at (r ∷ rs) (suc i) f =
    ap (λ (b : Bool). cond b r.number (first_of rs)) (f.before 0 (omega arith))
    ∙ first-at rs i (record { there = omega (arith, f.there); holds = f.holds; before = λ j h. f.before (suc j) (omega arith) })

some_first : (rs : List Refusal) → first_of rs ≢ 0 → (i : ℕ) × FirstAt rs i
unfolding first_of
some_first [] n = absurd (n refl)
some_first (r ∷ rs) n = go r.given refl n (some_first rs)
  where
    go : (b : Bool) → r.given ≡ b → cond b r.number (first_of rs) ≢ 0 → (first_of rs ≢ 0 → (i : ℕ) × FirstAt rs i)
        → (i : ℕ) × FirstAt (r ∷ rs) i
    go true f n ih = (0, record { there = omega arith; holds = f; before = λ j h. absurd (omega arith) })
    go false f n ih = later (ih n)
      where
        behind : (i : ℕ) → FirstAt rs i → (j : ℕ) → j < suc i → (get_or (r ∷ rs) j blank).given ≡ false
        behind i x zero h = f
        behind i x (suc j) h = x.before j (omega arith)

        later : (i : ℕ) × FirstAt rs i → (i : ℕ) × FirstAt (r ∷ rs) i
        later x = (suc x.0, record { there = omega (arith, x.1.there); holds = x.1.holds; before = behind x.0 x.1 })

-- where no refusal has the number 0, the first's number decides
pub first-decides : (rs : List Refusal) → Never 0 rs → Decides rs (first_of rs)
first-decides rs n = record { accepted = (none-given rs n, none_first rs); refused = first-at rs; some = some_first rs }
