-- A number of some bytes, and those that it is written by.
use Prim.Native.Nat.{ℕ, zero, suc, ◌+◌, ◌*◌, ◌/◌, ◌%◌, ◌^◌, ◌<◌}
use mathlib.Core.Path.{◌≡◌, refl, ap, ◌∙◌}
use mathlib.Core.List.{List, [], ◌∷◌, ◌++◌}
use native.Mathlib.Omega.{arith}
use native.Mathlib.Nat.{pow-suc}
use native.Mathlib.Numerals.{add-one}
use lib.ListN.{length, get_or, length-append}
use Rattle.std.specs.Int.{w16, w32, to_be_bytes}
use Rattle.records.specs.Numbers.{one_and, bytes_in, part}

-- ---- reading: four bytes from a place on, each read by itself
pub word_read : (s : List ℕ) (at : ℕ) → get_or s at 0 ∷ get_or s (at + 1) 0 ∷ get_or s (at + 2) 0 ∷ get_or s (at + 3) 0 ∷ [] ≡ part 4 at s
word_read s at =
    let e1 : at + 1 ≡ suc at = omega arith in
    let e2 : at + 2 ≡ suc (suc at) = omega arith in
    let e3 : at + 3 ≡ suc (suc (suc at)) = omega arith in
    rw (e1, e2, e3)

-- one byte more fits one byte more
pub digit-fits : (n b i : ℕ) → n < 256 ^ i → b < 256 → n * 256 + b < 256 ^ (i + 1)
digit-fits n b i hn hb = let z : 256 ^ (i + 1) ≡ 256 ^ i * 256 = ap (λ k. 256 ^ k) (add-one i) ∙ pow-suc 256 i in rw z (omega arith)

-- ---- writing
pub length-one : (w x : ℕ) → length (one_and w x) ≡ suc w
length-one zero x = refl
length-one (suc w) x = length-append (one_and w (x / 256)) (x % 256 ∷ []) ∙ rw (length-one w (x / 256)) (omega arith)

pub length-bytes : (w x : ℕ) → length (bytes_in w x) ≡ w
length-bytes zero x = refl
length-bytes (suc w) x = length-one w x

-- the bytes of a number that fits two or four of them, as its type gives them; those of eight bytes by their halves
module _ (x : ℕ) where
  pub be-two : x < 65536 → to_be_bytes w16 x ≡ bytes_in 2 x
  be-two h = let a : x / 256 % 256 ≡ x / 256 = omega arith in λ i. a i ∷ x % 256 ∷ []

  pub be-four : x < 4294967296 → to_be_bytes w32 x ≡ bytes_in 4 x
  be-four h =
      let a : x / 16777216 % 256 ≡ x / 256 / 256 / 256 = omega arith in
      let b : x / 65536 % 256 ≡ x / 256 / 256 % 256 = omega arith in
      λ i. a i ∷ b i ∷ x / 256 % 256 ∷ x % 256 ∷ []

pub in_halves : (x : ℕ) → bytes_in 4 (x / 4294967296) ++ bytes_in 4 (x % 4294967296) ≡ bytes_in 8 x
in_halves x =
    let p : x / 4294967296 ≡ x / 256 / 256 / 256 / 256 = omega arith in
    let d : x % 4294967296 / 256 / 256 / 256 ≡ x / 256 / 256 / 256 % 256 = omega arith in
    let c : x % 4294967296 / 256 / 256 % 256 ≡ x / 256 / 256 % 256 = omega arith in
    let b : x % 4294967296 / 256 % 256 ≡ x / 256 % 256 = omega arith in
    let a : x % 4294967296 % 256 ≡ x % 256 = omega arith in
    λ i. bytes_in 4 (p i) ++ (d i ∷ c i ∷ b i ∷ a i ∷ [])
