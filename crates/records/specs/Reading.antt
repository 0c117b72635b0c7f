-- Reading: the call of a record's bytes, or the number of the refusal.
use Rattle.std.specs.Prelude.{ℕ, ◌≡◌, List, cond, length, get_or, eqb, Err}
use Rattle.records.specs.Numbers.{cut}
use Rattle.records.specs.Kinds.{body_of, length_of, kind_of}
use Rattle.records.specs.Calls.{got_of}
use Rattle.records.specs.declared.Kind.{Kind}
use Rattle.records.specs.Refusals.{number_in, Got}
use Rattle.records.specs.declared.Refusal.TheVariants as refusal

-- ---- the contract of the byte at a place: b is the byte at place i of s, and 0 past the end
abbrev pub ByteIs : List ℕ → ℕ → ℕ → Type 0
ByteIs s i b = b ≡ get_or s i 0

-- the kind that the first byte names
abbrev pub first_kind : List ℕ → Kind
first_kind s = kind_of (get_or s 0 0)

-- read as a record of a kind: 4 where it is no carried kind, 3 where the length is not the kind's, else the call
unfoldable pub read_as : Kind → List ℕ → Got
read_as k s =
    cond (eqb (length_of k) 0) (Err refusal.UnknownKind)
    (cond (eqb (length s) (length_of k)) (got_of k (cut (body_of k) 1 s)) (Err refusal.WrongLength))

-- 3 where it is empty, else read as a record of its first byte's kind
unfoldable pub read_of : List ℕ → Got
read_of s = cond (eqb (length s) 0) (Err refusal.WrongLength) (read_as (first_kind s) s)

-- ---- the contract: g is what reading s answers
abbrev pub Reads : List ℕ → Got → Type 0
Reads s g = g ≡ read_of s

-- the number that a reader's answer carries
abbrev pub read_number : Got → ℕ
read_number g = number_in g
