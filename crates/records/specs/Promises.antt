-- What is promised of the definitions: both round trips, when each number is given, one outcome for each contract,
-- and which of some refusals gives its number.
use Rattle.std.specs.Prelude.{ℕ, ◌<◌, ◌≤◌, ◌^◌, ◌≡◌, ◌↔◌, ◌≢◌, ◌⊎◌, Bool, List, ◌++◌, length, Ok, Err}
use Rattle.records.specs.Numbers.{Bytes, number_of, bytes_in, part, total, lay, cut, Wide}
use Rattle.records.specs.Kinds.{body_of, length_of, KindIs, LengthIs, CallIs}
use Rattle.records.specs.Calls.{kind_of_call, fields_of, got_of, GotInRange}
use Rattle.records.specs.Reading.{ByteIs, first_kind, read_of, Reads, read_number}
use Rattle.records.specs.Writing.{bytes_of, written_of, Writes, write_number}
use Rattle.records.specs.Trips.{ComesBack, WritesAgain}
use Rattle.records.specs.Firsts.{Refusal, first_of, Decides, Never}
use Rattle.records.specs.declared.Kind.{Kind}
use Rattle.records.specs.declared.Kind.TheVariants as kind
use Rattle.records.specs.declared.Call.{Call}
use Rattle.records.specs.declared.Refusal.{Refusal as Why}
use Rattle.records.specs.Refusals.{refusal_number, refusal_for, Got, Written}

-- the record is of a carried kind, and its length is not its kind's
abbrev pub Misfit : List ℕ → Type 0
Misfit s = (first_kind s ≢ kind.Unknown) × (length s ≢ length_of (first_kind s))

pub record Promises : Type 0 where
  -- writing a call and reading it gives the same call
  pub write_read : (c : Call) → read_of (bytes_of c) ≡ Ok c
  -- reading a record and writing it gives the same bytes
  pub read_write : (s : List ℕ) (c : Call) → Bytes s → read_of s ≡ Ok c → bytes_of c ≡ s
  -- reading refuses only with 3 and 4, and each exactly when
  pub reads : (s : List ℕ) → (read_number (read_of s) ≡ 0) ⊎ ((read_number (read_of s) ≡ 3) ⊎ (read_number (read_of s) ≡ 4))
  pub refuses : (s : List ℕ) (r : Why) → read_of s ≡ Err r → (refusal_number r ≡ 3) ⊎ (refusal_number r ≡ 4)
  pub three : (s : List ℕ) → (read_number (read_of s) ≡ 3) ↔ ((length s ≡ 0) ⊎ Misfit s)
  pub four : (s : List ℕ) → (read_number (read_of s) ≡ 4) ↔ ((length s ≢ 0) × (first_kind s ≡ kind.Unknown))
  -- writing refuses only with 20, and exactly when the buffer is shorter than the record
  pub writes : (c : Call) (o : List ℕ) → (write_number (written_of c o) ≡ 0) ⊎ (write_number (written_of c o) ≡ 20)
  pub twenty : (c : Call) (o : List ℕ) → (write_number (written_of c o) ≡ 20) ↔ (length o < length (bytes_of c))
  -- no record is longer than ten bytes
  pub short : (c : Call) → length (bytes_of c) ≤ 10
  -- a number that fits its width is that of its bytes; what is read from bytes is in range
  pub number-back : (w x : ℕ) → x < 256 ^ w → number_of (bytes_in w x) ≡ x
  pub read_in_range : (s : List ℕ) → Bytes s → GotInRange (read_of s)
  -- any two outcomes that a public function's contract allows are equal, the answer and every byte of the buffer
  pub kind-determined : (b : ℕ) (x y : Kind) → KindIs b x → KindIs b y → x ≡ y
  pub length-determined : (k : Kind) (x y : ℕ) → LengthIs k x → LengthIs k y → x ≡ y
  pub call-determined : (k : Kind) (x y : Bool) → CallIs k x → CallIs k y → x ≡ y
  pub byte-determined : (s : List ℕ) (i x y : ℕ) → ByteIs s i x → ByteIs s i y → x ≡ y
  pub read-determined : (s : List ℕ) (x y : Got) → Reads s x → Reads s y → x ≡ y
  pub write_determined : (c : Call) (o p q : List ℕ) (x y : Written) → Writes c o p x → Writes c o q y
      → (p ≡ q) × (x ≡ y)
  pub there-determined : (c : Call) (x y : Got) → ComesBack c x → ComesBack c y → x ≡ y
  pub back-determined : (s o p q : List ℕ) (x y : Written) → WritesAgain s o p x → WritesAgain s o q y
      → (p ≡ q) × (x ≡ y)
  -- each refusal has a number of its own, and none has 0
  pub numbered : (r : Why) → refusal_for (refusal_number r) ≡ r
  pub numbered_some : (r : Why) → refusal_number r ≢ 0
  -- where no refusal of a list has the number 0, the first's number decides; a number that none of them has is not
  -- given
  pub first-decides : (rs : List Refusal) → Never 0 rs → Decides rs (first_of rs)
  pub first-not : (m : ℕ) (rs : List Refusal) → m ≢ 0 → Never m rs → first_of rs ≢ m
  -- numbers that are laid by some widths, cut out again by the same: the same numbers, whatever stands around them; and
  -- the other way round
  pub cut-lay : (ws xs p q : List ℕ) → Wide ws → length xs ≡ length ws → cut ws (length p) (p ++ (lay ws xs ++ q)) ≡ xs
  pub lay-cut : (s : List ℕ) → Bytes s → (ws : List ℕ) (i : ℕ) → lay ws (cut ws i s) ≡ part (total ws) i s
  pub lay-length : (ws xs : List ℕ) → length xs ≡ length ws → length (lay ws xs) ≡ total ws
  -- a call is of its kind and its numbers, and a kind with some numbers is a call of that kind with these numbers
  pub call-whole : (c : Call) → got_of (kind_of_call c) (fields_of c) ≡ Ok c
  pub call-parts : (k : Kind) (xs : List ℕ) (c : Call) → length xs ≡ length (body_of k) → got_of k xs ≡ Ok c
      → (kind_of_call c ≡ k) × (fields_of c ≡ xs)
