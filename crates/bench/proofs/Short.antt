-- No line is longer than the room that is kept for one.
use Prim.Native.Nat.{ℕ, ◌+◌, ◌≤◌, ◌<◌}
use mathlib.Core.Path.{◌≡◌}
use mathlib.Core.List.{List, [], ◌∷◌}
use native.Mathlib.Omega.{arith}
use lib.ListN.{length, length-append}
use Rattle.executive.specs.declared.Answer.{Answer}
use Rattle.text.specs.Glyphs.{decimal_of, hex_of, bit_of}
use Rattle.text.proofs.Assured.{promises}
use Rattle.bench.specs.Lines.{row, granule_word, tasks_word, active_word, stop_word, header_by, line_of, stop_of}

-- the length of a row, word by word
one_word : (w : List ℕ) → length (row (w ∷ [])) ≡ length w + 1
one_word w = length-append w (10 ∷ [])

more-words : (w v : List ℕ) (ws : List (List ℕ)) → length (row (w ∷ v ∷ ws)) ≡ length w + 1 + length (row (v ∷ ws))
more-words w v ws = omega (arith, length-append w (32 ∷ row (v ∷ ws)))

-- a number of one byte, and one of four
byte-short : (n : ℕ) → n < 256 → length (decimal_of n) ≤ 3
byte-short n h = promises.digits 2 n (omega arith)

word-short : (n : ℕ) → n < 4294967296 → length (decimal_of n) ≤ 10
word-short n h = promises.digits 9 n (omega arith)

module _ (g n a : ℕ) (g< : g < 256) (n< : n < 256) (a< : a < 256) where
  pub header_short : length (header_by g n a) ≤ 64
  header_short = omega (
    arith,
    more-words granule_word (decimal_of g) (tasks_word ∷ decimal_of n ∷ active_word ∷ decimal_of a ∷ []),
    more-words (decimal_of g) tasks_word (decimal_of n ∷ active_word ∷ decimal_of a ∷ []),
    more-words tasks_word (decimal_of n) (active_word ∷ decimal_of a ∷ []),
    more-words (decimal_of n) active_word (decimal_of a ∷ []),
    more-words active_word (decimal_of a) [],
    one_word (decimal_of a),
    byte-short g g<,
    byte-short n n<,
    byte-short a a<,
  )

pub line-short : (n kind : ℕ) (a : Answer) → n < 4294967296 → a.number < 256 → a.active.0 < 256 → length (line_of n kind a) ≤ 64
unfolding line_of
line-short n kind a h i j =
    let marks : List ℕ = bit_of a.z ∷ bit_of a.v ∷ bit_of a.c ∷ [] in
    omega (
      arith,
      more-words (decimal_of n) (hex_of kind) (decimal_of a.number ∷ marks ∷ decimal_of a.active.0 ∷ []),
      more-words (hex_of kind) (decimal_of a.number) (marks ∷ decimal_of a.active.0 ∷ []),
      more-words (decimal_of a.number) marks (decimal_of a.active.0 ∷ []),
      more-words marks (decimal_of a.active.0) [],
      one_word (decimal_of a.active.0),
      word-short n h,
      byte-short a.number i,
      byte-short a.active.0 j,
    )

pub stop-short : (n : ℕ) → n < 256 → length (stop_of n) ≤ 64
stop-short n h = omega (arith, more-words stop_word (decimal_of n) [], one_word (decimal_of n), byte-short n h)
