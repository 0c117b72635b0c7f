-- A question in bytes, and its answer: a head, which says what is asked, beside an image and room for a record.
use Rattle.std.specs.Prelude.{ℕ, ◌+◌, ◌*◌, ◌≡◌, Bool, not, cond, ◌||◌, List, eqb, ltb, length, get_or, take, drop, replicate, Ok, Err}
use Rattle.records.specs.Numbers.{number_of, part, cut}
use Rattle.records.specs.Writing.{written_of, out_of, write_number as written}
use Rattle.blocks.specs.Reading.{block_in}
use Rattle.blocks.specs.Writing.{record_number, record_image}
use Rattle.records.specs.Refusals.{refusal_number, Got}

-- ---- the head: what is asked (0 read, 1 write), the address (4 bytes), the argument or the work address (2), the
-- list's length (1) and its addresses (2 each), the record's length (1) and the record
abbrev pub address_in : List ℕ → ℕ
address_in q = number_of (part 4 1 q)

abbrev pub beside_in : List ℕ → ℕ
beside_in q = number_of (part 2 5 q)

abbrev pub count_in : List ℕ → ℕ
count_in q = get_or q 7 0

abbrev pub list_in : List ℕ → List ℕ
list_in q = cut (replicate (count_in q) 2) 8 q

-- the place of the record, and that of its end, where the head ends too
abbrev pub record_at : List ℕ → ℕ
record_at q = 9 + 2 * count_in q

abbrev pub end_of : List ℕ → ℕ
end_of q = record_at q + get_or q (8 + 2 * count_in q) 0

abbrev pub record_in : List ℕ → List ℕ
record_in q = take (get_or q (8 + 2 * count_in q) 0) (drop (record_at q) q)

-- it asks for neither, or its length is not what it says
unfoldable pub is_no_head : List ℕ → Bool
is_no_head q = ltb 1 (get_or q 0 0) || not (eqb (length q) (end_of q))

-- ---- what is told of a block that was read: the number, and what the room for its record then holds
abbrev pub told_number : Got → List ℕ → ℕ
told_number (Ok c) o = written (written_of c o)
told_number (Err r) o = refusal_number r

abbrev pub told_record : Got → List ℕ → List ℕ
told_record (Ok c) o = out_of c o
told_record (Err r) o = o

-- ---- the answer to the head q, with the image s and the room o: 3 where it is no head
abbrev pub read_in : List ℕ → List ℕ → Got
read_in q s = block_in s (address_in q) (list_in q) (beside_in q)

abbrev pub writes : List ℕ → Bool
writes q = eqb (get_or q 0 0) 1

unfoldable pub answer_number : List ℕ → List ℕ → List ℕ → ℕ
answer_number q s o =
    cond (is_no_head q) 3
    (cond (writes q) (record_number s (address_in q) (list_in q) (record_in q)) (told_number (read_in q s) o))

unfoldable pub answer_image : List ℕ → List ℕ → List ℕ
answer_image q s =
    cond (is_no_head q) s (cond (writes q) (record_image s (address_in q) (list_in q) (record_in q) (beside_in q)) s)

unfoldable pub answer_record : List ℕ → List ℕ → List ℕ → List ℕ
answer_record q s o = cond (is_no_head q) o (cond (writes q) o (told_record (read_in q s) o))

-- ---- the contracts: the head q ends at n; n is the answer to q, s then is t, and o then is p
abbrev pub EndsAt : List ℕ → ℕ → Type 0
EndsAt q n = n ≡ end_of q

pub record Answers (q s o t p : List ℕ) (n : ℕ) : Type 0 where
  pub number : n ≡ answer_number q s o
  pub image : t ≡ answer_image q s
  pub «record» : p ≡ answer_record q s o

-- ---- for the code: an array that begins with the list
pub record Lists (q r : List ℕ) : Type 0 where
  pub size : length r ≡ 255
  pub begins : take (count_in q) r ≡ list_in q
