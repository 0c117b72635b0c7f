-- Rows: what a function gives at each place, ascending. Every array that a pass makes anew is one.
use Rattle.std.specs.Prelude.{List, [], ◌∷◌, ℕ, zero, suc}

-- at n places, from place i on
unfoldable pub row : {A : Type 0} → (ℕ → A) → ℕ → ℕ → List A
row f zero i = []
row f (suc n) i = f i ∷ row f n (suc i)
