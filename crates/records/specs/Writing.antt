-- Writing: the bytes of a call, the writer's answer, and what the buffer then holds.
use Rattle.std.specs.Prelude.{ℕ, ◌≤◌, ◌≡◌, List, ◌∷◌, ◌++◌, cond, length, take, drop, leb, Ok, Err}
use Rattle.records.specs.Numbers.{lay}
use Rattle.records.specs.Kinds.{byte_of, body_of}
use Rattle.records.specs.Calls.{kind_of_call, fields_of}
use Rattle.records.specs.declared.Call.{Call}
use Rattle.records.specs.Refusals.{number_in, Written}
use Rattle.records.specs.declared.Refusal.TheVariants as refusal

-- the record of a call
abbrev pub bytes_of : Call → List ℕ
bytes_of c = byte_of (kind_of_call c) ∷ lay (body_of (kind_of_call c)) (fields_of c)

-- some bytes put at the start of a buffer: their number, or 20 where the buffer is shorter
abbrev pub put_of : List ℕ → List ℕ → Written
put_of s o = cond (leb (length s) (length o)) (Ok (length s)) (Err refusal.BufferShort)

-- what the buffer then holds: the bytes, and after them what was there; or all that was there
abbrev pub put_out_of : List ℕ → List ℕ → List ℕ
put_out_of s o = cond (leb (length s) (length o)) (s ++ drop (length s) o) o

-- the writer's answer, and what the buffer then holds
unfoldable pub written_of : Call → List ℕ → Written
written_of c o = put_of (bytes_of c) o

unfoldable pub out_of : Call → List ℕ → List ℕ
out_of c o = put_out_of (bytes_of c) o

-- ---- the contract: w is what writing c to the buffer o answers, and o then is p
pub record Writes (c : Call) (o p : List ℕ) (w : Written) : Type 0 where
  pub answer : w ≡ written_of c o
  pub buffer : p ≡ out_of c o

-- the number that a writer's answer carries
abbrev pub write_number : Written → ℕ
write_number w = number_in w

-- bs begins with the record of c, whose length is n
pub record Encodes (c : Call) (bs : List ℕ) (n : ℕ) : Type 0 where
  pub bytes : take n bs ≡ bytes_of c
  pub count : n ≡ length (bytes_of c)
  pub small : n ≤ 10
