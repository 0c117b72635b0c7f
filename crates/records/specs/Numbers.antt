-- Big-endian numbers of any width, and a row of them, one after the other.
use Rattle.std.specs.Prelude.{ℕ, zero, suc, ◌+◌, ◌*◌, ◌/◌, ◌%◌, ◌<◌, ◌^◌, List, [], ◌∷◌, ◌++◌, get_or}
use Prim.{Unit}

-- each element is a byte
abbrev pub Bytes : List ℕ → Type 0
Bytes s = (i : ℕ) → get_or s i 0 < 256

abbrev pub number_from : ℕ → List ℕ → ℕ
number_from n [] = n
number_from n (b ∷ bs) = number_from (n * 256 + b) bs

-- the number that some bytes are, the first byte the highest
abbrev pub number_of : List ℕ → ℕ
number_of [] = 0
number_of (b ∷ bs) = number_from b bs

-- the bytes of a number, one and so many more, the highest first
abbrev pub one_and : ℕ → ℕ → List ℕ
one_and zero x = x ∷ []
one_and (suc w) x = one_and w (x / 256) ++ (x % 256 ∷ [])

-- the bytes of a number of a width
abbrev pub bytes_in : ℕ → ℕ → List ℕ
bytes_in zero x = []
bytes_in (suc w) x = one_and w x

-- so many bytes from a place on
abbrev pub part : ℕ → ℕ → List ℕ → List ℕ
part zero i s = []
part (suc n) i s = get_or s i 0 ∷ part n (suc i) s

-- the sum of some widths
abbrev pub total : List ℕ → ℕ
total [] = 0
total (w ∷ ws) = w + total ws

-- numbers of these widths, laid one after the other
abbrev pub lay : List ℕ → List ℕ → List ℕ
lay [] xs = []
lay (w ∷ ws) [] = []
lay (w ∷ ws) (x ∷ xs) = bytes_in w x ++ lay ws xs

-- the numbers of these widths that stand one after the other from a place on
abbrev pub cut : List ℕ → ℕ → List ℕ → List ℕ
cut [] i s = []
cut (w ∷ ws) i s = number_of (part w i s) ∷ cut ws (i + w) s

-- each number is below the bound of its width
abbrev pub Fits : List ℕ → List ℕ → Type 0
Fits [] [] = Unit {0}
Fits [] (x ∷ xs) = ⊥
Fits (w ∷ ws) [] = ⊥
Fits (w ∷ ws) (x ∷ xs) = (x < 256 ^ w) × Fits ws xs

-- each width is one byte at least
abbrev pub Wide : List ℕ → Type 0
Wide [] = Unit {0}
Wide (w ∷ ws) = (0 < w) × Wide ws
