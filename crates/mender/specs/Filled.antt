-- Lines at the front of an array: free places last and blank, and how many are taken.
use Rattle.std.specs.Prelude.{ℕ, ◌+◌, List, length, set}
use Rattle.executive.specs.Lists.{pad}
use Rattle.mender.specs.declared.filled.Filled.{Filled}

-- some of them in an array of n places, d being a free one's; and one more
abbrev pub filled_of : {A : Type 0} (n : ℕ) → A → List A → Filled A n
filled_of n d xs = record { places = pad n d xs; taken = length xs }

abbrev pub filled_with : {A : Type 0} {n : ℕ} → A → Filled A n → Filled A n
filled_with x l = record { places = set l.places l.taken x; taken = l.taken + 1 }
