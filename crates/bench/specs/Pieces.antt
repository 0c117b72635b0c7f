-- The listing piece by piece: where it stands, the line told there, and the whole lines that go into a buffer.
use Rattle.std.specs.Prelude.{ℕ, zero, suc, ◌+◌, ◌-◌, ◌≤◌, ◌<◌, ◌≡◌, Bool, true, false, cond, List, [], ◌∷◌, ◌++◌, length, get_or, take, drop, eqb, leb, ltb, Option, Some, None, is_some}
use Rattle.records.specs.declared.TaskNo.{TaskNo}
use Rattle.executive.specs.declared.Table.{Table}
use Rattle.executive.specs.Configuration.{configuration_in}
use Rattle.executive.specs.Step.{step_of}
use Rattle.bench.specs.declared.Next.{Next}
use Rattle.bench.specs.declared.Next.TheVariants as next
use Rattle.bench.specs.declared.Progress.{Progress}
use Rattle.bench.specs.declared.Filled.{Filled}
use Rattle.text.specs.Glyphs.{Adds}
use Rattle.bench.specs.Lines.{header_of, line_of, stop_of}
use Rattle.bench.specs.Listing.{most_bytes, whole_of, last_of, steps_of, made_of, listing_of}

-- the room that is kept for a line: no line is longer
abbrev pub line_room : ℕ
line_room = 64

-- ---- where the listing stands
abbrev pub with_next : Option Next → Progress → Progress
with_next n r = record { next = n; at = r.at; number = r.number; table = r.table }

-- what is told first, of an input of that length whose configuration gave that number and that active task
abbrev pub first_of : ℕ → ℕ → TaskNo → Next
first_of n k active = cond (ltb most_bytes n) (next.Stop 12) (cond (eqb k 0) (next.Header active) (next.Stop 2))

unfoldable pub start_of : List ℕ → Progress
start_of s = record {
  next = Some (first_of (length s) (made_of s).answer.number (made_of s).answer.active);
  at = configuration_in s;
  number = 1;
  table = (made_of s).table;
}

-- is there more to tell?
abbrev pub is_more : Option Next → Bool
is_more n = is_some n

-- ---- the line told there, and where the listing stands after it
-- the number after n; no listing comes to the last one that a number of four bytes can be
abbrev pub after : ℕ → ℕ
after n = cond (ltb n 4294967295) (n + 1) n

-- the bytes that are left
abbrev pub left_in : List ℕ → Progress → List ℕ
left_in s r = drop r.at s

abbrev pub stepped : ℕ → List ℕ → Progress → Progress
stepped w s r = record {
  next = Some next.Step;
  at = r.at + w;
  number = after r.number;
  table = (step_of r.table (take w (left_in s r))).table;
}

abbrev pub told_as : Option Next → List ℕ → Progress → List ℕ
told_as (Some (next.Header k)) s r = header_of r.table k
told_as (Some next.Step) s r =
    cond (eqb (whole_of (left_in s r)) 0) (last_of (left_in s r))
    (line_of r.number (get_or (left_in s r) 0 0) (step_of r.table (take (whole_of (left_in s r)) (left_in s r))).answer)
told_as (Some (next.Stop n)) s r = stop_of n
told_as None s r = []

abbrev pub after_as : Option Next → List ℕ → Progress → Progress
after_as (Some (next.Header k)) s r = with_next (Some next.Step) r
after_as (Some next.Step) s r = cond (eqb (whole_of (left_in s r)) 0) (with_next None r) (stepped (whole_of (left_in s r)) s r)
after_as (Some (next.Stop n)) s r = with_next None r
after_as None s r = r

unfoldable pub told_of : List ℕ → Progress → List ℕ
told_of s r = told_as r.next s r

unfoldable pub after_of : List ℕ → Progress → Progress
after_of s r = after_as r.next s r

-- ---- the whole lines that go into a room, and where the listing stands after them
pub record Piece : Type 0 where
  pub text : List ℕ
  pub run : Progress

abbrev pub none : Progress → Piece
none r = record { text = []; run = r }

abbrev pub before : List ℕ → Piece → Piece
before t p = record { text = t ++ p.text; run = p.run }

-- is there a further line, and room for it?
abbrev pub goes_on : ℕ → Progress → Bool
goes_on room r = cond (is_more r.next) (leb line_room room) false

-- each line has a byte or more, so as many turns as there is room are enough
abbrev pub piece_in : ℕ → ℕ → List ℕ → Progress → Piece
piece_in zero room s r = none r
piece_in (suc turns) room s r =
    cond (goes_on room r) (before (told_of s r) (piece_in turns (room - length (told_of s r)) s (after_of s r))) (none r)

unfoldable pub piece_of : ℕ → List ℕ → Progress → Piece
piece_of room s r = piece_in room room s r

-- ---- the contracts: the listing of s stands at r at its start; what filling a buffer answers, a become b
abbrev pub Starts : List ℕ → Progress → Type 0
Starts s r = r ≡ start_of s

pub record Fills (s : List ℕ) (r : Progress) (a b : List ℕ) (f : Filled) : Type 0 where
  pub used : f.used ≡ length (piece_of (length a) s r).text
  pub more : f.more ≡ is_more (piece_of (length a) s r).run.next
  pub run : f.run ≡ (piece_of (length a) s r).run
  pub out : b ≡ (piece_of (length a) s r).text ++ drop (length (piece_of (length a) s r).text) a

-- the same in a buffer that is used up to a place
pub record FillsFrom (n : ℕ) (s : List ℕ) (r : Progress) (a b : List ℕ) (f : Filled) : Type 0 where
  pub more : f.more ≡ is_more (piece_of (length a - n) s r).run.next
  pub run : f.run ≡ (piece_of (length a - n) s r).run
  pub adds : Adds a n b f.used (piece_of (length a - n) s r).text

-- ---- where a listing can stand, and how much is left of it
-- the number of a step has room to count those that are left
abbrev pub SoundAs : Option Next → List ℕ → Progress → Type 0
SoundAs (Some (next.Header k)) s r = r.number + length (left_in s r) < 4294967296
SoundAs (Some next.Step) s r = r.number + length (left_in s r) < 4294967296
SoundAs (Some (next.Stop n)) s r = Unit {0}
SoundAs None s r = Unit {0}

abbrev pub Sound : List ℕ → Progress → Type 0
Sound s r = SoundAs r.next s r

-- no more lines are left than this
abbrev pub lines_as : Option Next → List ℕ → Progress → ℕ
lines_as (Some (next.Header k)) s r = length (left_in s r) + 2
lines_as (Some next.Step) s r = length (left_in s r) + 1
lines_as (Some (next.Stop n)) s r = 1
lines_as None s r = 0

abbrev pub lines : List ℕ → Progress → ℕ
lines s r = lines_as r.next s r

-- ---- the promise: from the start on, in buffers of any sizes, one after the other
abbrev pub poured_by : List ℕ → List ℕ → Progress → Piece
poured_by [] s r = none r
poured_by (n ∷ ns) s r = before (piece_of n s r).text (poured_by ns s (piece_of n s r).run)

-- every number of some list is a line's room or more
abbrev pub Roomy : List ℕ → Type 0
Roomy [] = Unit {0}
Roomy (n ∷ ns) = (line_room ≤ n) × Roomy ns

pub record Promise : Type 0 where
  -- the definition's turns are enough: with more of them the listing is the same
  pub turns : (j k n : ℕ) (t : Table) (s : List ℕ) → length s ≤ j → length s ≤ k → steps_of j n t s ≡ steps_of k n t s
  -- once no more is left to tell, what was told is the listing, no byte more or less
  pub whole : (s ns : List ℕ) → is_more (poured_by ns s (start_of s)).run.next ≡ false → (poured_by ns s (start_of s)).text ≡ listing_of s
  -- and that comes to be: a buffer with room for a line takes one or more, and there are not more lines than this
  pub ends : (s ns : List ℕ) → Roomy ns → length s + 2 ≤ length ns → is_more (poured_by ns s (start_of s)).run.next ≡ false
  -- for whoever fills until there is no more: where it starts there is more to tell and room to count it; a piece is
  -- within its buffer, leaves room to count, says whether there is more, and with room for a line leaves fewer lines
  pub start-sound : (s : List ℕ) → Sound s (start_of s)
  pub start-more : (s : List ℕ) → is_more (start_of s).next ≡ true
  pub within : (s : List ℕ) (r : Progress) (a b : List ℕ) (f : Filled) → Fills s r a b f → f.used ≤ length b
  pub sound : (s : List ℕ) (r : Progress) (a b : List ℕ) (f : Filled) → Fills s r a b f → Sound s r → Sound s f.run
  pub fewer : (s : List ℕ) (r : Progress) (a b : List ℕ) (f : Filled) → Fills s r a b f → Sound s r → line_room ≤ length a
      → is_more r.next ≡ true → lines s f.run < lines s r
  pub more : (s : List ℕ) (r : Progress) (a b : List ℕ) (f : Filled) → Fills s r a b f → f.more ≡ true
      → is_more f.run.next ≡ true
  -- any two outcomes that a public function's contract allows are equal: the answer, and every byte of the buffer
  pub start-determined : (s : List ℕ) (x y : Progress) → Starts s x → Starts s y → x ≡ y
  pub settled : (s : List ℕ) (r : Progress) (a b c : List ℕ) (f g : Filled) → Fills s r a b f → Fills s r a c g → (b ≡ c) × (f ≡ g)
