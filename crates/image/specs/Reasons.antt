-- Why a task is not running, as bytes, and what a question about an image answers and leaves in its buffer.
use Rattle.std.specs.Prelude.{ℕ, ◌≤◌, ◌<◌, ◌≡◌, true, false, cond, List, [], ◌∷◌, ◌++◌, ◌↔◌, ltb, length}
use Rattle.records.specs.Numbers.{lay}
use Rattle.records.specs.declared.TaskNo.{TaskNo}
use Rattle.executive.specs.declared.Mode.{Mode}
use Rattle.executive.specs.declared.Mode.TheVariants as mode
use Rattle.executive.specs.Places.{nobody}
use Rattle.executive.specs.Promises.InWords.{NoTask}
use Rattle.why.specs.declared.Cause.{Cause}
use Rattle.why.specs.declared.Cause.TheVariants as cause
use Rattle.why.specs.declared.Step.{Step}
use Rattle.why.specs.declared.Reasons.{Reasons}
use Rattle.why.specs.Paths.{refusal, explained}
use Rattle.why.specs.Promises.{TaskOf}
use Rattle.image.specs.Blocks.{row, written}
use Rattle.image.specs.Image.{no_room, load_of, is_image}
use Rattle.image.specs.EntryPoints.{WellFormedImage}

-- ---- a cause: its number, whom it waits on, one byte of its own, and a time or flags
abbrev pub cause_kind : Cause → ℕ
cause_kind cause.Dormant = 0
cause_kind cause.Active = 1
cause_kind (cause.Ready n) = 2
cause_kind (cause.Paused at) = 3
cause_kind (cause.Due at) = 4
cause_kind (cause.Flags m x) = 5
cause_kind (cause.Start p j) = 6
cause_kind (cause.EndOfRequest p j) = 7
cause_kind (cause.EndOfRun j) = 8
cause_kind (cause.Subprogram m j) = 9
cause_kind (cause.Message s) = 10

abbrev pub waited_on : Cause → TaskNo
waited_on cause.Dormant = nobody
waited_on cause.Active = nobody
waited_on (cause.Ready n) = nobody
waited_on (cause.Paused at) = nobody
waited_on (cause.Due at) = nobody
waited_on (cause.Flags m x) = nobody
waited_on (cause.Start p j) = j
waited_on (cause.EndOfRequest p j) = j
waited_on (cause.EndOfRun j) = j
waited_on (cause.Subprogram m j) = j
waited_on (cause.Message s) = nobody

abbrev pub mode_byte : Mode → ℕ
mode_byte mode.Any = 0
mode_byte mode.All = 1

-- how many are ahead, the mode of a wait for flags, a request's place, a subprogram's number, the sender of a message
abbrev pub own_byte : Cause → ℕ
own_byte cause.Dormant = 0
own_byte cause.Active = 0
own_byte (cause.Ready n) = n
own_byte (cause.Paused at) = 0
own_byte (cause.Due at) = 0
own_byte (cause.Flags m x) = mode_byte m
own_byte (cause.Start p j) = p
own_byte (cause.EndOfRequest p j) = p
own_byte (cause.EndOfRun j) = 0
own_byte (cause.Subprogram m j) = m.0
own_byte (cause.Message s) = s.0

-- until when, or the flags that are missing
abbrev pub until_of : Cause → ℕ
until_of cause.Dormant = 0
until_of cause.Active = 0
until_of (cause.Ready n) = 0
until_of (cause.Paused at) = at.0
until_of (cause.Due at) = at.0
until_of (cause.Flags m x) = x
until_of (cause.Start p j) = 0
until_of (cause.EndOfRequest p j) = 0
until_of (cause.EndOfRun j) = 0
until_of (cause.Subprogram m j) = 0
until_of (cause.Message s) = 0

-- ---- an answer's bytes: number, length, ring, 0, and sixteen steps of twelve bytes; a place behind the path is blank
abbrev pub step_widths : List ℕ
step_widths = 1 ∷ 1 ∷ 1 ∷ 1 ∷ 8 ∷ []

abbrev pub step_bytes : Step → List ℕ
step_bytes s =
    lay step_widths (s.task.0 ∷ cause_kind s.cause ∷ (waited_on s.cause).0 ∷ own_byte s.cause ∷ until_of s.cause ∷ [])

abbrev pub steps_at : ℕ
steps_at = 4

abbrev pub reasons_length : ℕ
reasons_length = 196

abbrev pub reasons_bytes : Reasons → List ℕ
reasons_bytes r = (r.number ∷ r.length ∷ r.ring ∷ 0 ∷ []) ++ row step_bytes r.steps

-- ---- the answer about an image: bytes that are no image are no well-formed table
unfoldable pub reasons_to : List ℕ → TaskNo → Reasons
reasons_to s k = cond (is_image s) (explained (load_of s) k) (refusal 1 false)

-- ---- a question: 30 where the buffer is too short, and then no byte of it changes
unfoldable pub why_number : List ℕ → TaskNo → List ℕ → ℕ
why_number s k o = cond (ltb (length o) reasons_length) no_room (reasons_to s k).number

unfoldable pub why_answer : List ℕ → TaskNo → List ℕ → List ℕ
why_answer s k o = cond (ltb (length o) reasons_length) o (written o 0 (reasons_bytes (reasons_to s k)))

-- the contract: n is what the question about task k of the image s answers, and the buffer o then is q
pub record ExplainsImage (s : List ℕ) (k : TaskNo) (o q : List ℕ) (n : ℕ) : Type 0 where
  pub number : n ≡ why_number s k o
  pub answer : q ≡ why_answer s k o

-- ---- what is promised of it. Each number exactly when, where there is room
pub record WhyNumbers (s : List ℕ) (k : TaskNo) (n : ℕ) : Type 0 where
  pub one : (n ≡ 1) ↔ (WellFormedImage s → ⊥)
  pub six : (n ≡ 6) ↔ (WellFormedImage s × NoTask (load_of s) k)
  pub nought : (n ≡ 0) ↔ (WellFormedImage s × TaskOf (load_of s) k.0)

pub record WhyPromises : Type 0 where
  -- a buffer that is too short is kept
  pub short : (s : List ℕ) (k : TaskNo) (o : List ℕ) → length o < reasons_length → (why_number s k o ≡ no_room) × (why_answer s k o ≡ o)
  pub numbers : (s : List ℕ) (k : TaskNo) (o : List ℕ) → reasons_length ≤ length o → WhyNumbers s k (why_number s k o)
  -- the answer about an image is that about the table which it holds, so what is promised of that holds of a board's
  pub table : (s : List ℕ) (k : TaskNo) → is_image s ≡ true → reasons_to s k ≡ explained (load_of s) k
  -- any two outcomes that the contract allows are equal
  pub determined : (s : List ℕ) (k : TaskNo) (o p q : List ℕ) (x y : ℕ) → ExplainsImage s k o p x → ExplainsImage s k o q y
      → (p ≡ q) × (x ≡ y)
