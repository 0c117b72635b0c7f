-- A byte in hex: two digits, in upper case.
use Rattle.std.specs.Prelude.{ℕ, ◌+◌, ◌/◌, ◌%◌, ◌≡◌, cond, List, [], ◌∷◌, ltb}

abbrev pub digit_of : ℕ → ℕ
digit_of d = cond (ltb d 10) (48 + d) (55 + d)

-- ---- the contract: r is the two digits of a byte, and the byte that is to follow them
abbrev pub InHex : ℕ → ℕ → List ℕ → Type 0
InHex byte next r = r ≡ digit_of (byte / 16) ∷ digit_of (byte % 16) ∷ next ∷ []
