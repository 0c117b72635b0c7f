-- The text of an answer, piece by piece.
use Prim.Native.Nat.{ℕ, ◌+◌, ◌-◌, ◌/◌, ◌%◌, ◌^◌, ◌<◌, min}
use mathlib.Core.Path.{◌≡◌, refl, sym, ap, ◌∙◌}
use mathlib.Core.Bool.{cond}
use mathlib.Core.List.{List, [], ◌∷◌, ◌++◌, append_assoc, append-nil}
use native.Mathlib.Omega.{arith}
use native.Mathlib.Numerals.{add-one}
use native.Mathlib.Nat.{div-one, pow-suc, div-div-eq-div-mul}
use borrow.Author.Tests.{eq-eqb, ne_eqb}
use lib.Dec.{eqb}
use lib.ListN.{length, get_or, take, drop, length-drop}
use lib.Seq.{take-suc, take_all}
use Rattle.std.proofs.lemmas.List.{take_min, drop_min}
use Rattle.executive.specs.declared.Millis.{Millis}
use Rattle.text.specs.Glyphs.{decimal_of}
use Rattle.why.specs.declared.Step.{Step}
use Rattle.why.specs.declared.Reasons.{Reasons}
use Rattle.why.specs.Paths.{no_step, path_in}
use Rattle.why.specs.Texts.{clock_word, ms_word, refused_word, ring_word, said_of, bits_of, step_line, step_lines, task_numbers, ring_line, text_of}

-- ---- one bit more
pub bits_none : (x : ℕ) → [] ≡ bits_of x 0
unfolding bits_of
bits_none x = refl

pub bits-more : (x n left : ℕ) → left ≡ x / 2 ^ n → bits_of x n ++ cond (eqb (left % 2) 1) (32 ∷ decimal_of n) [] ≡ bits_of x (n + 1)
unfolding bits_of
bits-more x n left e = rw (add-one n, e) refl

pub left-first : (x : ℕ) → x ≡ x / 2 ^ 0
left-first x = sym (div-one x)

pub left-next : (x n left : ℕ) → left ≡ x / 2 ^ n → left / 2 ≡ x / 2 ^ (n + 1)
left-next x n left e = ap (λ y. y / 2) e ∙ div-div-eq-div-mul x (2 ^ n) 2 ∙ ap (λ y. x / y) (sym (pow-suc 2 n) ∙ ap (λ m. 2 ^ m) (sym (add-one n)))

-- ---- one step more
lines_snoc : (ss : List Step) (s : Step) → step_lines (ss ++ (s ∷ [])) ≡ step_lines ss ++ step_line s
unfolding step_lines
lines_snoc [] s = append-nil (step_line s)
lines_snoc (x ∷ xs) s = ap (λ y. step_line x ++ y) (lines_snoc xs s) ∙ sym (append_assoc (step_line x) (step_lines xs) (step_line s))

numbers-snoc : (ss : List Step) (s : Step) → task_numbers (ss ++ (s ∷ [])) ≡ task_numbers ss ++ (32 ∷ decimal_of s.task.0)
unfolding task_numbers
numbers-snoc [] s = append-nil (32 ∷ decimal_of s.task.0)
numbers-snoc (x ∷ xs) s =
    ap (λ y. (32 ∷ decimal_of x.task.0) ++ y) (numbers-snoc xs s) ∙ sym (append_assoc (32 ∷ decimal_of x.task.0) (task_numbers xs) (32 ∷ decimal_of s.task.0))

module _ (l : List Step) where
  pub lines_none : [] ≡ step_lines (take 0 l)
  unfolding step_lines
  lines_none = refl

  pub numbers-none : [] ≡ task_numbers (take 0 l)
  unfolding task_numbers
  numbers-none = refl

  pub lines_more : (i : ℕ) → i < length l → step_lines (take i l) ++ step_line (get_or l i no_step) ≡ step_lines (take (i + 1) l)
  lines_more i h = sym (lines_snoc (take i l) (get_or l i no_step)) ∙ ap step_lines (sym (take-suc l i no_step h) ∙ ap (λ n. take n l) (sym (add-one i)))

  pub numbers_more : (i : ℕ) → i < length l → task_numbers (take i l) ++ (32 ∷ decimal_of (get_or l i no_step).task.0) ≡ task_numbers (take (i + 1) l)
  numbers_more i h = sym (numbers-snoc (take i l) (get_or l i no_step)) ∙ ap task_numbers (sym (take-suc l i no_step h) ∙ ap (λ n. take n l) (sym (add-one i)))

  -- ---- the line of the ring
  pub ring-none : length l ≡ 0 → [] ≡ ring_line l
  unfolding ring_line
  ring-none e = none l e
    where
      none : (l : List Step) → length l ≡ 0 → [] ≡ ring_line l
      none [] e = refl
      none (x ∷ xs) e = absurd (omega arith)

pub ring-some : (l : List Step) → 0 < length l → ring_word ++ (task_numbers l ++ (10 ∷ [])) ≡ ring_line l
unfolding ring_line
ring-some [] h = absurd (omega arith)
ring-some (x ∷ xs) h = refl

-- ---- the slices that are told
pub path_part : (r : Reasons) (n : ℕ) → length r.steps ≡ 16 → n ≡ min r.length 16 → take n r.steps ≡ path_in r
path_part r n l e = ap (λ m. take m r.steps) e ∙ rw l at (take_min r.length r.steps)

pub ring_part : (xs : List Step) (s m : ℕ) → m ≡ min s (length xs) → take (length xs - m) (drop m xs) ≡ drop s xs
ring_part xs s m e = take_all (length xs - m) (drop m xs) (omega (arith, length-drop m xs)) ∙ ap (λ i. drop i xs) e ∙ drop_min s xs

-- ---- the whole
module _ (r : Reasons) (clock : Millis) where
  pub text-refused : (r.number ≡ 0 → ⊥) → said_of refused_word r.number (10 ∷ []) ≡ text_of r clock
  unfolding text_of
  text-refused h = rw (ne_eqb r.number 0 h) refl

  pub text_path : (n : ℕ) → take n r.steps ≡ path_in r → r.number ≡ 0
      → said_of clock_word clock.0 (ms_word ++ (10 ∷ [])) ++ (step_lines (take n r.steps) ++ ring_line (drop (r.length - r.ring) (take n r.steps))) ≡ text_of r clock
  unfolding text_of
  text_path n e z = rw (eq-eqb r.number 0 z, e) refl
