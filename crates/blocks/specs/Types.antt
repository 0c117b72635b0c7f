-- The table of blocks (docs/BLOCKS.md), and what is read from it: a block's bytes, its length, and its numbers as
-- those of a call, and back.
use Rattle.std.specs.Prelude.{ℕ, ◌+◌, ◌/◌, ◌%◌, Bool, false, cond, ◌||◌, List, [], ◌∷◌, ltb, eqb, get_or}
use Rattle.records.specs.Numbers.{total, lay, cut}
use Rattle.records.specs.Kinds.{place}
use Rattle.records.specs.declared.Kind.{Kind}
use Rattle.records.specs.declared.Kind.TheVariants as kind
use Rattle.blocks.specs.Lists.{task_of, address_of}

-- what a number of a block is to the call's number in its place: the same; a task, by its address in the block and by
-- its number in the call; or what is given beside, the work address in the block and the argument in the call
pub data Use : Type 0 where
  same task beside : Use

-- a kind of call, its block's first byte, the widths of the numbers that follow, what each of them is, and when old
-- boards read these numbers otherwise
pub record Form : Type 0 where
  pub name : Kind
  pub byte : ℕ
  pub widths : List ℕ
  pub uses : List Use
  pub otherwise : List ℕ → Bool

abbrev pub form : Kind → ℕ → List ℕ → List Use → (List ℕ → Bool) → Form
form k b ws us o = record { name = k; byte = b; widths = ws; uses = us; otherwise = o }

-- ---- bit 6 of the parameter, or unit 5 in its bits 2..0; unit 5, the whole byte; never
abbrev pub skips_or_days : List ℕ → Bool
skips_or_days xs = eqb (get_or xs 0 0 / 64 % 2) 1 || eqb (get_or xs 0 0 % 8) 5

abbrev pub in_days : List ℕ → Bool
in_days xs = eqb (get_or xs 0 0) 5

abbrev pub never : List ℕ → Bool
never xs = false

-- the table
abbrev pub forms : List Form
forms =
    form kind.Terminate 0x00 [] [] never
    ∷ form kind.Restart 0x01 (1 ∷ 1 ∷ []) (same ∷ same ∷ []) skips_or_days
    ∷ form kind.Pause 0x02 (1 ∷ 1 ∷ []) (same ∷ same ∷ []) in_days
    ∷ form kind.StartOrQueue 0x05 (1 ∷ 2 ∷ 2 ∷ []) (same ∷ task ∷ beside ∷ []) never
    ∷ []

-- what stands for a form where there is none: its byte is past the bytes
abbrev pub no_form : Form
no_form = form kind.Unknown 256 [] [] never

abbrev pub first_form : (Form → Bool) → List Form → Form
first_form test [] = no_form
first_form test (f ∷ fs) = cond (test f) f (first_form test fs)

-- the form of a block with this first byte, and of the block of a kind of call
unfoldable pub form_at : ℕ → Form
form_at b = first_form (λ f. eqb b f.byte) forms

unfoldable pub form_of : Kind → Form
form_of k = first_form (λ f. eqb (place k) (place f.name)) forms

abbrev pub is_none : Form → Bool
is_none f = eqb (place f.name) 0

-- the length of a block; for the code, 0 where there is none
abbrev pub length_in : Form → ℕ
length_in f = 1 + total f.widths

abbrev pub size_of : Form → ℕ
size_of f = cond (is_none f) 0 (length_in f)

-- ---- the numbers of a block as those of a call, and back: by what is made of a task's, and what is given beside
abbrev pub one_through : (ℕ → ℕ) → ℕ → Use → ℕ → ℕ
one_through f g same x = x
one_through f g task x = f x
one_through f g beside x = g

abbrev pub through : (ℕ → ℕ) → ℕ → List Use → List ℕ → List ℕ
through f g [] xs = []
through f g (u ∷ us) [] = []
through f g (u ∷ us) (x ∷ xs) = one_through f g u x ∷ through f g us xs

-- a block's numbers to a call's, with the argument; a call's numbers to a block's, with the work address
abbrev pub to_call : Form → List ℕ → ℕ → List ℕ → List ℕ
to_call f l argument xs = through (task_of l) argument f.uses xs

abbrev pub to_block : Form → List ℕ → ℕ → List ℕ → List ℕ
to_block f l work xs = through (address_of l) work f.uses xs

-- the number that is given beside, among the numbers of a block or of a call; 0 where there is none
abbrev pub or_beside : Use → ℕ → ℕ → ℕ
or_beside same x r = r
or_beside task x r = r
or_beside beside x r = x

abbrev pub beside_in : List Use → List ℕ → ℕ
beside_in [] xs = 0
beside_in (u ∷ us) [] = 0
beside_in (u ∷ us) (x ∷ xs) = or_beside u x (beside_in us xs)

-- among the numbers of a call, a task is 0 or over a count
abbrev pub is_unlisted : ℕ → Use → ℕ → Bool
is_unlisted n same x = false
is_unlisted n task x = eqb x 0 || ltb n x
is_unlisted n beside x = false

abbrev pub unlisted : ℕ → List Use → List ℕ → Bool
unlisted n [] xs = false
unlisted n (u ∷ us) [] = false
unlisted n (u ∷ us) (x ∷ xs) = is_unlisted n u x || unlisted n us xs

-- ---- a block's bytes, from its call's numbers; and its numbers, from the place of its first byte
abbrev pub block_of : Form → List ℕ → ℕ → List ℕ → List ℕ
block_of f l work xs = f.byte ∷ lay f.widths (to_block f l work xs)

abbrev pub numbers_at : Form → List ℕ → ℕ → List ℕ
numbers_at f s a = cut f.widths (a + 1) s
