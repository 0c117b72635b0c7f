-- Numbers as text, in ASCII codes, and text put at a place of a buffer.
use Rattle.std.specs.Prelude.{ℕ, zero, suc, ◌+◌, ◌/◌, ◌%◌, ◌≡◌, Bool, true, false, cond, List, [], ◌∷◌, ◌++◌, length, take, drop, leb, ltb}

-- the decimal digits of n, given at least n turns
abbrev pub digits_in : ℕ → ℕ → List ℕ
digits_in zero n = (48 + n) ∷ []
digits_in (suc k) n = cond (ltb n 10) ((48 + n) ∷ []) (digits_in k (n / 10) ++ ((48 + n % 10) ∷ []))

unfoldable pub decimal_of : ℕ → List ℕ
decimal_of n = digits_in n n

-- a hexadecimal digit, 0 to 9 and then A to F
abbrev pub glyph_of : ℕ → ℕ
glyph_of d = cond (ltb d 10) (48 + d) (55 + d)

-- a byte as two of them
abbrev pub hex_of : ℕ → List ℕ
hex_of b = glyph_of (b / 16) ∷ glyph_of (b % 16) ∷ []

-- 1 or 0
abbrev pub bit_of : Bool → ℕ
bit_of true = 49
bit_of false = 48

-- ---- the text t put at the place at of the buffer o: the bytes, and the place after it. Nothing where it does not fit
unfoldable pub bytes_after : List ℕ → ℕ → List ℕ → List ℕ
bytes_after o at t = cond (leb (at + length t) (length o)) ((take at o ++ t) ++ drop (at + length t) o) o

unfoldable pub place_after : List ℕ → ℕ → List ℕ → ℕ
place_after o at t = cond (leb (at + length t) (length o)) (at + length t) at

-- the contracts: the buffer o is become b, and r is the place
pub record Puts (o : List ℕ) (at : ℕ) (t b : List ℕ) (r : ℕ) : Type 0 where
  pub bytes : b ≡ bytes_after o at t
  pub place : r ≡ place_after o at t

-- the buffer a, used up to place n, is become b, used up to place m: the text t stands there, and all else is as it was
pub record Adds (a : List ℕ) (n : ℕ) (b : List ℕ) (m : ℕ) (t : List ℕ) : Type 0 where
  pub text : take m b ≡ take n a ++ t
  pub rest : drop m b ≡ drop m a
  pub place : m ≡ n + length t
  pub size : length b ≡ length a
