-- The loops over the entries: one turn, and the end.
use Prim.Native.Nat.{ℕ, zero, suc, ◌+◌, ◌≤◌, ◌<◌}
use mathlib.Core.Path.{◌≡◌, refl, ap, ◌∙◌}
use mathlib.Core.Bool.{Bool, true, false, cond}
use mathlib.Core.List.{List, [], ◌∷◌, ◌++◌, map}
use native.Mathlib.Omega.{arith}
use native.Mathlib.Numerals.{add-one}
use lib.ListN.{length, get_or, set, take, drop, drop_of_length-le}
use lib.Seq.{drop-cons}
use Rattle.executive.specs.declared.Task.{Task}
use Rattle.executive.specs.Lists.{one}
use Rattle.executive.specs.Places.{no_task}
use Rattle.executive.specs.States.{ready, is_of}
use Rattle.scan.specs.declared.Entry.{Entry}
use Rattle.scan.specs.declared.Best.{Best}
use Rattle.scan.specs.Entries.{entry, no_entry}
use Rattle.scan.specs.Choosing.{better_of, scanned}
use Rattle.scan.specs.Making.{numbered_from}

module _ {A : Type 0} (d : A) (xs : List A) (i : ℕ) where
  pub opened : i < length xs → drop i xs ≡ get_or xs i d ∷ drop (i + 1) xs
  opened h = drop-cons xs i d h ∙ rw add-one refl

  pub ended : length xs ≤ i → drop i xs ≡ []
  ended h = drop_of_length-le xs {i = i} h

-- ---- the chooser
module _ (es : List Entry) (i : ℕ) (b : Best) where
  pub scan_on : i < length es → scanned (drop (i + 1) es) (i + 1) (better_of b i (get_or es i no_entry)) ≡ scanned (drop i es) i b
  unfolding scanned
  scan_on h = rw (opened no_entry es i h, add-one) refl

  pub scan_end : length es ≤ i → scanned (drop i es) i b ≡ b
  unfolding scanned
  scan_end h = rw (ended no_entry es i h) refl

-- ---- an array that is filled from the front
pub take_more : {A : Type 0} (out : List A) (i : ℕ) (x : A) (r : List A) → i < length out → take (i + 1) (set out i x) ++ r ≡ take i out ++ (x ∷ r)
take_more out i x r h = rw add-one (go out i h)
  where
    go : (out : List _) (i : ℕ) → i < length out → take (suc i) (set out i x) ++ r ≡ take i out ++ (x ∷ r)
    go [] i h = absurd (omega arith)
    go (y ∷ ys) zero h = refl
    go (y ∷ ys) (suc i) h = ap (λ (l : List _). y ∷ l) (go ys i (omega arith))

pub take_all : {A : Type 0} (out : List A) (i : ℕ) → i ≡ length out → take i out ++ [] ≡ out
take_all [] zero h = refl
take_all [] (suc i) h = absurd (omega arith)
take_all (x ∷ xs) zero h = absurd (omega arith)
take_all (x ∷ xs) (suc i) h = ap (λ (l : List _). x ∷ l) (take_all xs i (omega arith))

module _ {A B : Type 0} (f : A → B) (d : A) (xs : List A) (i : ℕ) where
  pub map_on : i < length xs → map f (drop i xs) ≡ f (get_or xs i d) ∷ map f (drop (i + 1) xs)
  map_on h = ap (map f) (opened d xs i h)

  pub map-end : length xs ≤ i → map f (drop i xs) ≡ []
  map-end h = ap (map f) (ended d xs i h)

-- ---- the fresh table's numbers
module _ (ts : List Task) (i n : ℕ) where
  abbrev here : Bool
  here = is_of ready (get_or ts i no_task).state

  pub number-on : i < length ts → numbered_from n (drop i ts) ≡ entry (get_or ts i no_task) (cond here (n + one here) 0) ∷ numbered_from (n + one here) (drop (i + 1) ts)
  unfolding numbered_from
  number-on h = rw (opened no_task ts i h) (go here)
    where
      go : (b : Bool) → cond b (entry (get_or ts i no_task) (suc n) ∷ numbered_from (suc n) (drop (i + 1) ts)) (entry (get_or ts i no_task) 0 ∷ numbered_from n (drop (i + 1) ts))
          ≡ entry (get_or ts i no_task) (cond b (n + one b) 0) ∷ numbered_from (n + one b) (drop (i + 1) ts)
      go true = let z : suc n ≡ n + 1 = omega arith in λ j. entry (get_or ts i no_task) (z j) ∷ numbered_from (z j) (drop (i + 1) ts)
      go false = let z : n ≡ n + 0 = omega arith in λ j. entry (get_or ts i no_task) 0 ∷ numbered_from (z j) (drop (i + 1) ts)

  pub number-end : length ts ≤ i → numbered_from n (drop i ts) ≡ []
  unfolding numbered_from
  number-end h = rw (ended no_task ts i h) refl
