-- Choices, tests and sums over lists, and lines that stand in arrays: what all other definitions rest on.
use Rattle.std.specs.Prelude.{Bool, true, false, cond, List, [], ◌∷◌, ◌++◌, ℕ, suc, ◌+◌, zero, drop, take}

-- 1 where the test passes, else 0
abbrev pub one : Bool → ℕ
one true = 1
one false = 0

infixr 30 ◌and◌
abbrev pub ◌and◌ : Bool → Bool → Bool
◌and◌ true b = b
◌and◌ false b = false

-- a test at each number from 1 to n; a test of each element
unfoldable pub up_to : (ℕ → Bool) → ℕ → Bool
up_to f zero = true
up_to f (suc n) = cond (up_to f n) (f (suc n)) false

unfoldable pub all_of : {A : Type 0} → (A → Bool) → List A → Bool
all_of f [] = true
all_of f (x ∷ xs) = cond (f x) (all_of f xs) false

-- ---- counting
unfoldable pub sum_of : {A : Type 0} → (A → ℕ) → List A → ℕ
sum_of f [] = 0
sum_of f (x ∷ xs) = f x + sum_of f xs

-- ---- a line that stands at the front of an array: free places last and blank
unfoldable pub pad : {A : Type 0} → ℕ → A → List A → List A
pad zero d xs = xs
pad (suc n) d [] = d ∷ pad n d []
pad (suc n) d (x ∷ xs) = x ∷ pad n d xs

-- one place closed up, and d at the end
unfoldable pub closed_at : {A : Type 0} → A → List A → ℕ → List A
closed_at d p at = take at p ++ (drop (at + 1) p ++ (d ∷ []))

-- the number of the next that passes a test, of those numbered from i on; the number past the last where none does
unfoldable pub next_of : {A : Type 0} → (A → Bool) → ℕ → List A → ℕ
next_of f i [] = i
next_of f i (x ∷ xs) = cond (f x) i (next_of f (suc i) xs)

-- a step for each of n numbers, ascending from k
unfoldable pub each : {A : Type 0} → (A → ℕ → A) → ℕ → ℕ → A → A
each f zero k a = a
each f (suc n) k a = each f n (k + 1) (f a k)
