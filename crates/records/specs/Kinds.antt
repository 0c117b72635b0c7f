-- The table of records, and what is read from it: a kind's first byte, its body, its length, and the kind of a
-- first byte.
use Rattle.std.specs.Prelude.{ℕ, ◌+◌, ◌≡◌, List, [], ◌∷◌, Bool, true, false, cond, eqb}
use Rattle.records.specs.Numbers.{total}
use Rattle.records.specs.declared.Kind.{Kind}
use Rattle.records.specs.declared.Kind.TheVariants as kind

-- a kind, its first byte, the widths in bytes of its body's numbers, and whether a step takes it
pub record Row : Type 0 where
  pub name : Kind
  pub byte : ℕ
  pub body : List ℕ
  pub call : Bool

-- a call, the tick included; a record of a configuration
abbrev pub row : Kind → ℕ → List ℕ → Row
row k b ws = record { name = k; byte = b; body = ws; call = true }

abbrev pub setting : Kind → ℕ → List ℕ → Row
setting k b ws = record { name = k; byte = b; body = ws; call = false }

-- the table, in the order of docs/CALLS.md, 2; kinds that came later stand last
abbrev pub table : List Row
table =
    row kind.Terminate 0x00 []
    ∷ row kind.Restart 0x01 (1 ∷ 1 ∷ [])
    ∷ row kind.Pause 0x02 (1 ∷ 1 ∷ [])
    ∷ row kind.CancelPause 0x03 (1 ∷ [])
    ∷ row kind.StartIfDormant 0x04 (1 ∷ 1 ∷ [])
    ∷ row kind.StartOrQueue 0x05 (1 ∷ 1 ∷ 2 ∷ [])
    ∷ row kind.Flag 0x09 (1 ∷ 1 ∷ [])
    ∷ row kind.Wait 0x0A (1 ∷ 4 ∷ [])
    ∷ row kind.Alarm 0x0B (1 ∷ 1 ∷ 1 ∷ [])
    ∷ row kind.Tick 0x80 []
    ∷ setting kind.Granule 0x40 (1 ∷ [])
    ∷ setting kind.Task 0x41 (1 ∷ 1 ∷ [])
    ∷ setting kind.End 0x42 []
    ∷ row kind.Enter 0x06 (1 ∷ [])
    ∷ row kind.Exit 0x07 (1 ∷ [])
    ∷ row kind.Send 0x14 (1 ∷ 8 ∷ [])
    ∷ row kind.Receive 0x15 (1 ∷ [])
    ∷ []

-- what the first row that passes a test says, or else what is given for none
abbrev pub look : {A : Type 0} → (Row → Bool) → (Row → A) → A → List Row → A
look test says none [] = none
look test says none (r ∷ rs) = cond (test r) (says r) (look test says none rs)

-- a number for each kind, to tell kinds apart
abbrev pub place : Kind → ℕ
place kind.Unknown = 0
place kind.Terminate = 1
place kind.Restart = 2
place kind.Pause = 3
place kind.CancelPause = 4
place kind.StartIfDormant = 5
place kind.StartOrQueue = 6
place kind.Flag = 7
place kind.Wait = 8
place kind.Alarm = 9
place kind.Tick = 10
place kind.Granule = 11
place kind.Task = 12
place kind.End = 13
place kind.Enter = 14
place kind.Exit = 15
place kind.Send = 16
place kind.Receive = 17

abbrev pub is_of : Kind → Row → Bool
is_of k r = eqb (place k) (place r.name)

-- the first byte of a kind; Unknown has none, and stands past the bytes
abbrev pub byte_of : Kind → ℕ
byte_of k = look (is_of k) (λ r. r.byte) 256 table

-- the widths of a kind's body
abbrev pub body_of : Kind → List ℕ
body_of k = look (is_of k) (λ r. r.body) [] table

-- the length of a whole record of a kind; 0 says that there is none
abbrev pub length_of : Kind → ℕ
length_of k = look (is_of k) (λ r. 1 + total r.body) 0 table

-- whether a record of a kind is a call; Unknown is none
abbrev pub is_call : Kind → Bool
is_call k = look (is_of k) (λ r. r.call) false table

-- the kind whose first byte this is, among some rows and in the table
abbrev pub kind_among : List Row → ℕ → Kind
kind_among rs b = look (λ r. eqb b r.byte) (λ r. r.name) kind.Unknown rs

unfoldable pub kind_of : ℕ → Kind
kind_of b = kind_among table b

-- ---- the contracts: k is the kind of the first byte b; n is the length of a record of kind k; b says whether it is
-- a call
abbrev pub KindIs : ℕ → Kind → Type 0
KindIs b k = k ≡ kind_of b

abbrev pub LengthIs : Kind → ℕ → Type 0
LengthIs k n = n ≡ length_of k

abbrev pub CallIs : Kind → Bool → Type 0
CallIs k b = b ≡ is_call k
