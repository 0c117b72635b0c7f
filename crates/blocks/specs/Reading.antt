-- Reading: the call of the block at an address of an image, or the number of the refusal.
use Rattle.std.specs.Prelude.{ℕ, ◌≡◌, cond, List, eqb, length, get_or, Err}
use Rattle.records.specs.Firsts.{Refusal, first_of}
use Rattle.records.specs.Calls.{got_of}
use Rattle.blocks.specs.Types.{Form, form_at, to_call, numbers_at, beside_in}
use Rattle.blocks.specs.Refusals.{refusals}
use Rattle.records.specs.Refusals.{refusal_for, Got}

-- the form of the block at an address, its call's numbers, the call, and its own work address, 0 where it has none
abbrev pub form_in : List ℕ → ℕ → Form
form_in s a = form_at (get_or s a 0)

abbrev pub fields_in : List ℕ → ℕ → List ℕ → ℕ → List ℕ
fields_in s a l argument = to_call (form_in s a) l argument (numbers_at (form_in s a) s a)

abbrev pub called_in : List ℕ → ℕ → List ℕ → ℕ → Got
called_in s a l argument = got_of (form_in s a).name (fields_in s a l argument)

abbrev pub work_in : List ℕ → ℕ → ℕ
work_in s a = beside_in (form_in s a).uses (numbers_at (form_in s a) s a)

abbrev pub read_refusals : List ℕ → ℕ → List ℕ → ℕ → List Refusal
read_refusals s a l argument = refusals (length s) a l (form_in s a) (fields_in s a l argument)

-- by the number: the call of a form with its numbers, or the refusal
abbrev pub got_by : ℕ → Form → List ℕ → Got
got_by n f xs = cond (eqb n 0) (got_of f.name xs) (Err (refusal_for n))

unfoldable pub block_in : List ℕ → ℕ → List ℕ → ℕ → Got
block_in s a l argument = got_by (first_of (read_refusals s a l argument)) (form_in s a) (fields_in s a l argument)

-- ---- the contract: g is what reading the block at a of the image s, with the list l and the argument, answers
abbrev pub ReadsBlock : List ℕ → ℕ → List ℕ → ℕ → Got → Type 0
ReadsBlock s a l argument g = g ≡ block_in s a l argument
