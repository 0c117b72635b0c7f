-- The list of task addresses: it gives tasks 1, 2 and so on.
use Rattle.std.specs.Prelude.{ℕ, zero, suc, Bool, false, cond, ◌||◌, List, [], ◌∷◌, ltb, eqb, length, get_or}

-- the first place of an address in a list, from 0 on; the list's length where it is not listed
unfoldable pub place_of : ℕ → List ℕ → ℕ
place_of x [] = 0
place_of x (y ∷ ys) = cond (eqb x y) 0 (suc (place_of x ys))

-- the task of an address, which is over the list's length where it is not listed
abbrev pub task_of : List ℕ → ℕ → ℕ
task_of l x = suc (place_of x l)

-- the address of a task; 0 for task 0 and for one over the list's length
abbrev pub address_of : List ℕ → ℕ → ℕ
address_of l zero = 0
address_of l (suc i) = get_or l i 0

-- some address stands in it twice
unfoldable pub has_repeat : List ℕ → Bool
has_repeat [] = false
has_repeat (x ∷ xs) = ltb (place_of x xs) (length xs) || has_repeat xs

-- it is longer than 16, or has a repeat
unfoldable pub is_bad : List ℕ → Bool
is_bad l = ltb 16 (length l) || has_repeat l
