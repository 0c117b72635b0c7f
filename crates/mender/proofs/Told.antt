-- The text of a list, piece by piece.
use Prim.Native.Nat.{ℕ, ◌+◌, ◌*◌, ◌≤◌}
use mathlib.Core.Path.{◌≡◌, refl}
use mathlib.Core.Bool.{Bool, true, false}
use mathlib.Core.Logic.{◌≢◌}
use mathlib.Core.List.{List, [], ◌∷◌, ◌++◌}
use native.Mathlib.Omega.{arith}
use native.Mathlib.Numerals.{add-one}
use borrow.Author.Tests.{eq-eqb, ne_eqb, leb-true, leb-false}
use lib.Dec.{leb}
use lib.ListN.{length, get_or}
use Rattle.text.proofs.Assured as text
use Rattle.text.proofs.Assured.{decide}
use Rattle.mender.specs.Telling.{nothing_words, unchanged_words, lost_words, rule_words, note_line, note_lines, noted_in, refused_line, text_of, Tells, ToldLaw}
use Rattle.mender.proofs.CodeTests.{yes, no}

-- the words of a rule that has none of its own
pub words_else : (r : ℕ) → r ≢ 0 → r ≢ 1 → r ≢ 3 → r ≢ 4 → r ≢ 5 → r ≢ 7 → r ≢ 8 → r ≢ 11 → lost_words ≡ rule_words r
unfolding rule_words
words_else r a b c d e f g h =
    no _ _ _ (ne_eqb r 0 a)
    (no _ _ _ (ne_eqb r 1 b)
    (no _ _ _ (ne_eqb r 3 c)
    (no _ _ _ (ne_eqb r 4 d)
    (no _ _ _ (ne_eqb r 5 e)
    (no _ _ _ (ne_eqb r 7 f)
    (no _ _ _ (ne_eqb r 8 g)
    (no _ _ _ (ne_eqb r 11 h) refl)))))))

-- one line more
module _ (l : List ℕ) where
  pub lines_none : [] ≡ note_lines l 0
  unfolding note_lines
  lines_none = refl

  pub lines_more : (i : ℕ) → note_lines l i ++ note_line (get_or l (i * 2 + 1) 0) (get_or l (i * 2 + 2) 0) ≡ note_lines l (i + 1)
  unfolding note_lines
  lines_more i = rw (add-one i) refl

  -- the whole
  module _ (number : ℕ) (same : Bool) where
    pub text-refused : number ≢ 0 → refused_line number ≡ text_of number same l
    unfolding text_of
    text-refused h = no _ _ _ (ne_eqb number 0 h) refl

    pub text_same : number ≡ 0 → same ≡ true → nothing_words ++ (10 ∷ []) ≡ text_of number same l
    unfolding text_of
    text_same z s = yes _ _ _ (eq-eqb number 0 z) (yes _ _ _ s refl)

    pub text_unchanged : number ≡ 0 → same ≡ false → noted_in l ≡ 0 → unchanged_words ++ (10 ∷ []) ≡ text_of number same l
    unfolding text_of
    text_unchanged z s n = yes _ _ _ (eq-eqb number 0 z) (no _ _ _ s (yes _ _ _ (eq-eqb (noted_in l) 0 n) refl))

    pub text-lines : number ≡ 0 → same ≡ false → noted_in l ≢ 0 → note_lines l (noted_in l) ≡ text_of number same l
    unfolding text_of
    text-lines z s n = yes _ _ _ (eq-eqb number 0 z) (no _ _ _ s (no _ _ _ (ne_eqb (noted_in l) 0 n) refl))

-- ---- it is within its buffer, and there are no two outcomes
within : (number : ℕ) (same : Bool) (l o b : List ℕ) (n : ℕ) → Tells number same l o b n → n ≤ length b
within number same l o b n p =
    let t : List ℕ = text_of number same l in
    let s = (text.promises).size o 0 t b n p in
    decide (leb (0 + length t) (length o))
    (λ y. omega (arith, s, text.inside (omega arith) ((text.promises).adds o 0 t b n (leb-true (0 + length t) (length o) y) p)))
    (λ y. omega (arith, ((text.promises).keeps o 0 t b n (leb-false (0 + length t) (length o) y) p).1))

pub told_law : ToldLaw
told_law = record {
  within = within;
  determined = λ number same l o b c m n p q. (text.promises).determined o 0 (text_of number same l) b c m n p q;
}
