-- The image of the second engine's table: the board's own of the table with the same entries and rest and nobody in its
-- queue, then the sixteen arrival numbers and the last one given, four bytes each. docs/TABLE.md has it in words.
use Rattle.std.specs.Prelude.{ℕ, ◌+◌, ◌*◌, Bool, false, cond, List, [], ◌∷◌, ◌++◌, eqb, length, get_or, take, drop}
use Rattle.records.specs.Numbers.{lay, cut, Fits}
use Rattle.executive.specs.declared.Task.{Task}
use Rattle.executive.specs.declared.Table.{Table}
use Rattle.executive.specs.Places.{no_task}
use Rattle.scan.specs.declared.Entry.{Entry}
use Rattle.scan.specs.declared.Scanned.{Scanned}
use Rattle.scan.specs.Entries.{entry}
use Rattle.scan.specs.Step.{bare}
use Rattle.image.specs.Blocks.{row, blocks, Each, same}
use Rattle.image.specs.Image.{image_length, image_of, load_of, FitsTable}

-- ---- a number of four bytes: an arrival number, or the last one given
abbrev pub word_widths : List ℕ
word_widths = 4 ∷ []

abbrev pub word_numbers : ℕ → List ℕ
word_numbers n = n ∷ []

abbrev pub word_of : List ℕ → ℕ
word_of xs = get_or xs 0 0

abbrev pub word_bytes : ℕ → List ℕ
word_bytes n = lay word_widths (word_numbers n)

abbrev pub arrival_bytes : Entry → List ℕ
arrival_bytes x = word_bytes x.arrival

-- ---- the image: the numbers stand behind the board's, the last one given behind those of the entries
abbrev pub last_at : ℕ
last_at = 64

abbrev pub numbers_length : ℕ
numbers_length = 68

abbrev pub scan_length : ℕ
scan_length = image_length + numbers_length

unfoldable pub numbers_bytes : List Entry → ℕ → List ℕ
numbers_bytes es last = row arrival_bytes es ++ word_bytes last

unfoldable pub scan_image : Scanned → List ℕ
scan_image e = image_of (bare e) ++ numbers_bytes e.entries e.last

-- ---- the table of any bytes; those past the end read as 0, and a queue that they hold is left out
abbrev pub word_from : List ℕ → ℕ → ℕ
word_from s at = word_of (cut word_widths at s)

-- the entry at place i: the task there, and its number
abbrev pub entry_from : List Task → List ℕ → ℕ → Entry
entry_from ts s i = entry (get_or ts i no_task) (word_from s (i * 4))

abbrev pub scanned_of : Table → List ℕ → Scanned
scanned_of t s = record { entries = blocks (entry_from t.tasks s) 1 16 0; last = word_from s last_at; rest = t.rest }

unfoldable pub scan_load : List ℕ → Scanned
scan_load s = scanned_of (load_of (take image_length s)) (drop image_length s)

-- ---- an image is byte for byte the image of the table that it loads to
unfoldable pub is_scan : List ℕ → Bool
is_scan s = cond (eqb (length s) scan_length) (same (scan_image (scan_load s)) s) false

-- ---- every number fits its width, and every array has its length: so it is of each table that code holds
abbrev pub FitsWord : ℕ → Type 0
FitsWord n = Fits word_widths (word_numbers n)

pub record FitsScan (e : Scanned) : Type 0 where
  pub table : FitsTable (bare e)
  pub arrivals : Each (λ (x : Entry). FitsWord x.arrival) e.entries
  pub last : FitsWord e.last
