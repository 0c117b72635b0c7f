-- When reading or writing a block is refused: one list for both ways, in document 02's order, of each number and when
-- it is given. The first whose condition holds is the answer's.
use Rattle.std.specs.Prelude.{ℕ, ◌+◌, Bool, not, ◌||◌, List, [], ◌∷◌, leb, ltb, eqb, length}
use Rattle.records.specs.Firsts.{Refusal, when}
use Rattle.records.specs.Numbers.{cut}
use Rattle.records.specs.Kinds.{body_of, length_of}
use Rattle.records.specs.Reading.{first_kind}
use Rattle.blocks.specs.Lists.{is_bad}
use Rattle.blocks.specs.Types.{Form, form_of, is_none, length_in, unlisted}

-- the longest image, in bytes
abbrev pub longest : ℕ
longest = 65536

-- the image, of length n, is too long, or the address a is not in it
abbrev pub is_outside : ℕ → ℕ → Bool
is_outside n a = ltb longest n || leb n a

-- ---- of a block of a form, with its call's numbers, at address a of an image of length n, with the list l
-- once its form is known
abbrev pub later : ℕ → ℕ → List ℕ → Form → List ℕ → List Refusal
later n a l f xs =
    when 18 (ltb n (a + length_in f))
    ∷ when 19 (is_bad l || unlisted (length l) f.uses xs)
    ∷ when 21 (f.otherwise xs)
    ∷ []

abbrev pub refusals : ℕ → ℕ → List ℕ → Form → List ℕ → List Refusal
refusals n a l f xs = when 18 (is_outside n a) ∷ when 4 (is_none f) ∷ later n a l f xs

-- ---- of a record's bytes: empty, it has no kind; and its length is to be its kind's
abbrev pub form_in : List ℕ → Form
form_in bs = form_of (first_kind bs)

abbrev pub numbers_in : List ℕ → List ℕ
numbers_in bs = cut (body_of (first_kind bs)) 1 bs

abbrev pub of_record : ℕ → ℕ → List ℕ → List ℕ → List Refusal
of_record n a l bs =
    when 18 (is_outside n a)
    ∷ when 4 (eqb (length bs) 0 || is_none (form_in bs))
    ∷ when 3 (not (eqb (length bs) (length_of (first_kind bs))))
    ∷ later n a l (form_in bs) (numbers_in bs)

-- ---- for the code: what is judged before the call's numbers are known, by the block's length k, 0 where there is none,
-- and what is judged of them, by the list's length
abbrev pub by_place : ℕ → ℕ → ℕ → List ℕ → List Refusal
by_place n a k l = when 18 (is_outside n a) ∷ when 4 (eqb k 0) ∷ when 18 (ltb n (a + k)) ∷ when 19 (is_bad l) ∷ []

abbrev pub by_numbers : ℕ → Form → List ℕ → List Refusal
by_numbers n f xs = when 19 (unlisted n f.uses xs) ∷ when 21 (f.otherwise xs) ∷ []
