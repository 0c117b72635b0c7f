-- Writing: the number that is answered, and what the image then holds.
use Rattle.std.specs.Prelude.{ℕ, ◌+◌, ◌≤◌, ◌≡◌, false, cond, List, ◌++◌, eqb, length, take, drop}
use Rattle.records.specs.Firsts.{Refusal, first_of}
use Rattle.records.specs.Calls.{kind_of_call, fields_of}
use Rattle.records.specs.declared.Call.{Call}
use Rattle.blocks.specs.Types.{Form, form_of, is_none, size_of, beside_in, block_of}
use Rattle.blocks.specs.Refusals.{refusals, form_in, numbers_in, of_record}

-- the form of a call's block, and the call's argument, 0 where it has none
abbrev pub form_for : Call → Form
form_for c = form_of (kind_of_call c)

abbrev pub argument_of : Call → ℕ
argument_of c = beside_in (form_for c).uses (fields_of c)

-- some bytes laid at an address of an image: every other byte is as it was
abbrev pub laid_at : List ℕ → ℕ → List ℕ → List ℕ
laid_at s a b = take a s ++ (b ++ drop (a + length b) s)

-- by the number: the image with the block of a form laid, or as given
abbrev pub image_by : ℕ → List ℕ → ℕ → List ℕ → Form → ℕ → List ℕ → List ℕ
image_by n s a l f work xs = cond (eqb n 0) (laid_at s a (block_of f l work xs)) s

-- ---- of a call
abbrev pub write_refusals : List ℕ → ℕ → List ℕ → Call → List Refusal
write_refusals s a l c = refusals (length s) a l (form_for c) (fields_of c)

unfoldable pub write_number : List ℕ → ℕ → List ℕ → Call → ℕ
write_number s a l c = first_of (write_refusals s a l c)

unfoldable pub image_after : List ℕ → ℕ → List ℕ → Call → ℕ → List ℕ
image_after s a l c work = image_by (write_number s a l c) s a l (form_for c) work (fields_of c)

-- ---- of a record's bytes
abbrev pub record_refusals : List ℕ → ℕ → List ℕ → List ℕ → List Refusal
record_refusals s a l bs = of_record (length s) a l bs

unfoldable pub record_number : List ℕ → ℕ → List ℕ → List ℕ → ℕ
record_number s a l bs = first_of (record_refusals s a l bs)

unfoldable pub record_image : List ℕ → ℕ → List ℕ → List ℕ → ℕ → List ℕ
record_image s a l bs work = image_by (record_number s a l bs) s a l (form_in bs) work (numbers_in bs)

-- ---- the contracts: n is what writing the call c, or the record bs, to a of the image s answers, and s then is t
pub record WritesBlock (s : List ℕ) (a : ℕ) (l : List ℕ) (c : Call) (work : ℕ) (t : List ℕ) (n : ℕ) : Type 0 where
  pub number : n ≡ write_number s a l c
  pub image : t ≡ image_after s a l c work

pub record WritesRecord (s : List ℕ) (a : ℕ) (l : List ℕ) (bs : List ℕ) (work : ℕ) (t : List ℕ) (n : ℕ) : Type 0 where
  pub number : n ≡ record_number s a l bs
  pub image : t ≡ record_image s a l bs work

-- bs begins with the block of c, whose length is n; 0: c has none
pub record Lays (l : List ℕ) (c : Call) (work : ℕ) (bs : List ℕ) (n : ℕ) : Type 0 where
  pub size : n ≡ size_of (form_for c)
  pub small : n ≤ 6
  pub block : is_none (form_for c) ≡ false → take n bs ≡ block_of (form_for c) l work (fields_of c)
