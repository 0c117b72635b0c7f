-- Refusals in an order: each a number and when it is given. The first whose condition holds gives its number.
use Prim.{Unit}
use Rattle.std.specs.Prelude.{ℕ, ◌<◌, ◌≡◌, ◌↔◌, ◌≢◌, Bool, true, false, cond, List, [], ◌∷◌, length, get_or}

pub record Refusal : Type 0 where
  pub number : ℕ
  pub given : Bool

abbrev pub when : ℕ → Bool → Refusal
when n b = record { number = n; given = b }

-- the number of the first that is given; 0: accepted
unfoldable pub first_of : List Refusal → ℕ
first_of [] = 0
first_of (r ∷ rs) = cond r.given r.number (first_of rs)

-- the condition at place i holds, and none before it
pub record FirstAt (rs : List Refusal) (i : ℕ) : Type 0 where
  pub there : i < length rs
  pub holds : (get_or rs i (when 0 false)).given ≡ true
  pub before : (j : ℕ) → j < i → (get_or rs j (when 0 false)).given ≡ false

-- the number n is that of the first place whose condition holds, and 0 exactly if none holds
pub record Decides (rs : List Refusal) (n : ℕ) : Type 0 where
  pub accepted : (n ≡ 0) ↔ ((i : ℕ) → (get_or rs i (when 0 false)).given ≡ false)
  pub refused : (i : ℕ) → FirstAt rs i → n ≡ (get_or rs i (when 0 false)).number
  pub some : n ≢ 0 → (i : ℕ) × FirstAt rs i

-- no number in the list is m
abbrev pub Never : ℕ → List Refusal → Type 0
Never m [] = Unit {0}
Never m (r ∷ rs) = (r.number ≢ m) × Never m rs
