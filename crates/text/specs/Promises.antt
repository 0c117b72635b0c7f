-- What is promised of a text that is put at a place of a buffer.
use Rattle.std.specs.Prelude.{ℕ, suc, ◌+◌, ◌^◌, ◌≤◌, ◌<◌, ◌≡◌, List, length}
use Rattle.text.specs.Glyphs.{decimal_of, Puts, Adds}

pub record Promises : Type 0 where
  -- where there is room the text stands there, and all else is as it was; where there is none nothing is written
  pub adds : (o : List ℕ) (at : ℕ) (t b : List ℕ) (r : ℕ) → at + length t ≤ length o → Puts o at t b r → Adds o at b r t
  pub keeps : (o : List ℕ) (at : ℕ) (t b : List ℕ) (r : ℕ) → length o < at + length t → Puts o at t b r → (b ≡ o) × (r ≡ at)
  -- the buffer keeps its length
  pub size : (o : List ℕ) (at : ℕ) (t b : List ℕ) (r : ℕ) → Puts o at t b r → length b ≡ length o
  -- a number below 10 ^ (k + 1) has at most k + 1 decimal digits
  pub digits : (k n : ℕ) → n < 10 ^ suc k → length (decimal_of n) ≤ suc k
  -- any two outcomes that a public function's contract allows are equal: the place, and every byte of the buffer
  pub determined : (o : List ℕ) (at : ℕ) (t b c : List ℕ) (r s : ℕ) → Puts o at t b r → Puts o at t c s → (b ≡ c) × (r ≡ s)
