-- What is promised of the definitions, each sentence over all types of blocks at once.
use Rattle.std.specs.Prelude.{ℕ, ◌+◌, ◌≤◌, ◌<◌, ◌≡◌, ◌↔◌, ◌≢◌, false, List, [], ◌∷◌, map, length, get_or, Ok}
use Rattle.records.specs.Firsts.{Refusal, Decides}
use Rattle.records.specs.Numbers.{Bytes}
use Rattle.records.specs.Reading.{read_of, read_number}
use Rattle.records.specs.declared.Call.{Call}
use Rattle.blocks.specs.Lists.{place_of, has_repeat}
use Rattle.blocks.specs.Types.{length_in}
use Rattle.blocks.specs.Reading.{work_in, read_refusals, block_in, ReadsBlock}
use Rattle.blocks.specs.Writing.{form_for, argument_of, write_refusals, write_number, image_after, WritesBlock}
use Rattle.blocks.specs.Writing.{record_refusals, record_number, record_image, WritesRecord}
use Rattle.blocks.specs.Asking.{EndsAt, Answers}
use Rattle.blocks.specs.Hex.{InHex}
use Rattle.records.specs.Refusals.{Got}

-- t has the length of s, and its bytes before the address a and from a + n on
pub record Others (s : List ℕ) (a n : ℕ) (t : List ℕ) : Type 0 where
  pub size : length t ≡ length s
  pub before : (i : ℕ) → i < a → get_or t i 0 ≡ get_or s i 0
  pub behind : (i : ℕ) → a + n ≤ i → get_or t i 0 ≡ get_or s i 0

-- the record bs is judged and written as the call c
pub record AsCall (s : List ℕ) (a : ℕ) (l bs : List ℕ) (c : Call) : Type 0 where
  pub number : record_number s a l bs ≡ write_number s a l c
  pub image : (work : ℕ) → record_image s a l bs work ≡ image_after s a l c work

abbrev pub numbers_of : List Refusal → List ℕ
numbers_of rs = map (λ (r : Refusal). r.number) rs

-- s is any image, a any address, l any list, c any call, bs any bytes
pub record Promises : Type 0 where
  -- where writing a call is accepted, reading its block, with the same list and the call's argument, gives the call
  pub write_read : (s : List ℕ) (a : ℕ) (l : List ℕ) (c : Call) (work : ℕ) → write_number s a l c ≡ 0
      → block_in (image_after s a l c work) a l (argument_of c) ≡ Ok c
  -- where reading gives a call, writing it back with the block's own work address is accepted, and gives the same image
  pub read_write : (s : List ℕ) (a : ℕ) (l : List ℕ) (argument : ℕ) (c : Call) → Bytes s → block_in s a l argument ≡ Ok c
      → (write_number s a l c ≡ 0) × (image_after s a l c (work_in s a) ≡ s)
  -- after any write, refused or not, the image has its length and every other byte; a refusal changes none at all
  pub others-stay : (s : List ℕ) (a : ℕ) (l : List ℕ) (c : Call) (work : ℕ)
      → Others s a (length_in (form_for c)) (image_after s a l c work)
  pub refusal-keeps : (s : List ℕ) (a : ℕ) (l : List ℕ) (c : Call) (work : ℕ) → write_number s a l c ≢ 0
      → image_after s a l c work ≡ s
  pub record_keeps : (s : List ℕ) (a : ℕ) (l bs : List ℕ) (work : ℕ) → record_number s a l bs ≢ 0
      → record_image s a l bs work ≡ s
  -- a record is written as the call that is read from it; where one is accepted, there is such a call
  pub as_call : (s : List ℕ) (a : ℕ) (l bs : List ℕ) (c : Call) → read_of bs ≡ Ok c → AsCall s a l bs c
  pub is_call : (s : List ℕ) (a : ℕ) (l bs : List ℕ) → record_number s a l bs ≡ 0 → (c : Call) × (read_of bs ≡ Ok c)
  -- each number is given exactly when its condition is the first that holds, 0 exactly if none holds; their order
  pub read-decides : (s : List ℕ) (a : ℕ) (l : List ℕ) (argument : ℕ)
      → Decides (read_refusals s a l argument) (read_number (block_in s a l argument))
  pub write_decides : (s : List ℕ) (a : ℕ) (l : List ℕ) (c : Call) → Decides (write_refusals s a l c) (write_number s a l c)
  pub record_decides : (s : List ℕ) (a : ℕ) (l bs : List ℕ) → Decides (record_refusals s a l bs) (record_number s a l bs)
  pub read-order : (s : List ℕ) (a : ℕ) (l : List ℕ) (argument : ℕ)
      → numbers_of (read_refusals s a l argument) ≡ 18 ∷ 4 ∷ 18 ∷ 19 ∷ 21 ∷ []
  pub write_order : (s : List ℕ) (a : ℕ) (l : List ℕ) (c : Call)
      → numbers_of (write_refusals s a l c) ≡ 18 ∷ 4 ∷ 18 ∷ 19 ∷ 21 ∷ []
  pub record_order : (s : List ℕ) (a : ℕ) (l bs : List ℕ)
      → numbers_of (record_refusals s a l bs) ≡ 18 ∷ 4 ∷ 3 ∷ 18 ∷ 19 ∷ 21 ∷ []
  -- an address has a place below the list's length exactly if it is listed; no repeat is that no two places are alike
  pub listed : (x : ℕ) (l : List ℕ) → (place_of x l < length l) ↔ ((i : ℕ) × ((i < length l) × (get_or l i 0 ≡ x)))
  pub no_repeat : (l : List ℕ) → (has_repeat l ≡ false) ↔ ((i j : ℕ) → i < j → j < length l → get_or l i 0 ≢ get_or l j 0)
  -- any two outcomes that a public function's contract allows are equal: the answer and every byte of the image
  pub read-determined : (s : List ℕ) (a : ℕ) (l : List ℕ) (argument : ℕ) (x y : Got)
      → ReadsBlock s a l argument x → ReadsBlock s a l argument y → x ≡ y
  pub write_determined : (s : List ℕ) (a : ℕ) (l : List ℕ) (c : Call) (work : ℕ) (t u : List ℕ) (x y : ℕ)
      → WritesBlock s a l c work t x → WritesBlock s a l c work u y → (t ≡ u) × (x ≡ y)
  pub record_determined : (s : List ℕ) (a : ℕ) (l bs : List ℕ) (work : ℕ) (t u : List ℕ) (x y : ℕ)
      → WritesRecord s a l bs work t x → WritesRecord s a l bs work u y → (t ≡ u) × (x ≡ y)
  pub answer-determined : (q s o t u p r : List ℕ) (x y : ℕ) → Answers q s o t p x → Answers q s o u r y
      → (t ≡ u) × (p ≡ r) × (x ≡ y)
  pub end-determined : (q : List ℕ) (x y : ℕ) → EndsAt q x → EndsAt q y → x ≡ y
  pub hex_determined : (byte next : ℕ) (x y : List ℕ) → InHex byte next x → InHex byte next y → x ≡ y
