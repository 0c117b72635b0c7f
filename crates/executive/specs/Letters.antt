-- The book of letters (02, A8), kept from the history: which messages were accepted, which of them were handed over, which
-- still wait.
use Rattle.std.specs.Prelude.{◌≡◌, Bool, cond, List, [], ◌∷◌, ◌++◌, map, ℕ, suc, eqb}
use Rattle.records.specs.declared.Call.{Call}
use Rattle.records.specs.declared.Call.TheVariants as call
use Rattle.executive.specs.declared.Message.{Message}
use Rattle.executive.specs.declared.Table.{Table}
use Rattle.executive.specs.Lists.{◌and◌, sum_of, one}
use Rattle.executive.specs.States.{takes, takes_from}
use Rattle.executive.specs.Messages.{letters, put_behind}
use Rattle.executive.specs.Plans.{caller, state_at, letter_of}
use Rattle.executive.specs.Refusals.{call_in}
use Rattle.executive.specs.Step.{step_of}

-- ---- a letter: the number of the step that accepted it, which names it, and what it came with
pub record Letter : Type 0 where
  pub step : ℕ
  pub to : ℕ
  pub sender : ℕ
  pub priority : ℕ
  pub text : ℕ

abbrev pub letter : ℕ → Message → Letter
letter i m = record { step = i; to = m.to.0; sender = m.sender.0; priority = m.priority; text = m.text.0 }

-- the same without its step's number
abbrev pub unstamped : Letter → Letter
unstamped e = record { step = 0; to = e.to; sender = e.sender; priority = e.priority; text = e.text }

-- those that wait as letters; their steps are not known
abbrev pub unnumbered : List Message → List Letter
unnumbered ms = map (letter 0) ms

-- the book: those accepted, in the order of sending; those handed over, in that order; those that wait, first to last
pub record Letters : Type 0 where
  pub posted : List Letter
  pub handed : List Letter
  pub waiting : List Letter

-- opened where some wait already; they bear number 0, steps are numbered from 1
abbrev pub opened : List Letter → Letters
opened w = record { posted = []; handed = []; waiting = w }

-- ---- what a step is to the book: nothing, a message that is delivered at once or must wait, a receive of task k from number s
pub data Passage : Type 0 where
  elsewhere : Passage
  delivers : Message → Passage
  keeps : Message → Passage
  hands : ℕ → ℕ → Passage

-- of an accepted call
unfoldable pub passage_of : Table → Call → Passage
passage_of t call.Terminate = elsewhere
passage_of t (call.Restart p n) = elsewhere
passage_of t (call.Pause u n) = elsewhere
passage_of t (call.CancelPause k) = elsewhere
passage_of t (call.StartIfDormant o k) = elsewhere
passage_of t (call.StartOrQueue o k a) = elsewhere
passage_of t (call.Flag o f) = elsewhere
passage_of t (call.Wait m mask) = elsewhere
passage_of t (call.Alarm u n f) = elsewhere
passage_of t call.Tick = elsewhere
passage_of t (call.Granule g) = elsewhere
passage_of t (call.Task p m) = elsewhere
passage_of t call.End = elsewhere
passage_of t (call.Enter m) = elsewhere
passage_of t (call.Exit m) = elsewhere
passage_of t (call.Send k x) = cond (takes (caller t).0 (state_at t k)) (delivers (letter_of t k x)) (keeps (letter_of t k x))
passage_of t (call.Receive s) = hands (caller t).0 s.0

-- of a record's bytes: a refused one is nothing to the book
unfoldable pub passage_in : Table → List ℕ → Passage
passage_in t s = cond (eqb (step_of t s).answer.number 0) (passage_of t (call_in s)) elsewhere

-- ---- the first that passes a test, alone if there is one; all but that; all that pass it
unfoldable pub first_that : {A : Type 0} → (A → Bool) → List A → List A
first_that f [] = []
first_that f (x ∷ xs) = cond (f x) (x ∷ []) (first_that f xs)

unfoldable pub but_first : {A : Type 0} → (A → Bool) → List A → List A
but_first f [] = []
but_first f (x ∷ xs) = cond (f x) xs (x ∷ but_first f xs)

unfoldable pub all_that : {A : Type 0} → (A → Bool) → List A → List A
all_that f [] = []
all_that f (x ∷ xs) = cond (f x) (x ∷ all_that f xs) (all_that f xs)

-- whether a letter fits one who receives as task k, from number s or, where s is 0, from any
abbrev pub letter_fits : ℕ → ℕ → Letter → Bool
letter_fits k s e = eqb k e.to and takes_from s e.sender

-- whether it is for task k, from task s, at priority p; how often step i stands in a list
abbrev pub is_of_these : ℕ → ℕ → ℕ → Letter → Bool
is_of_these k s p e = eqb k e.to and eqb s e.sender and eqb p e.priority

abbrev pub of_these : ℕ → ℕ → ℕ → List Letter → List Letter
of_these k s p es = all_that (is_of_these k s p) es

abbrev pub times_of : ℕ → List Letter → ℕ
times_of i es = sum_of (λ (e : Letter). one (eqb i e.step)) es

-- one that must wait goes behind all of equal or higher priority
abbrev pub letter_rank : Letter → ℕ
letter_rank e = e.priority

abbrev pub joins_letters : Letter → List Letter → List Letter
joins_letters e es = put_behind letter_rank e es

-- ---- step i is entered
unfoldable pub entered : ℕ → Passage → Letters → Letters
entered i elsewhere b = b
entered i (delivers m) b = record { posted = b.posted ++ (letter i m ∷ []); handed = b.handed ++ (letter i m ∷ []); waiting = b.waiting }
entered i (keeps m) b = record { posted = b.posted ++ (letter i m ∷ []); handed = b.handed; waiting = joins_letters (letter i m) b.waiting }
entered i (hands k s) b = record {
  posted = b.posted;
  handed = b.handed ++ first_that (letter_fits k s) b.waiting;
  waiting = but_first (letter_fits k s) b.waiting;
}

-- over some records, the first of them step i
unfoldable pub letters_from : ℕ → Table → Letters → List (List ℕ) → Letters
letters_from i t b [] = b
letters_from i t b (s ∷ ss) = letters_from (suc i) (step_of t s).table (entered i (passage_in t s) b) ss

-- from a table, whose messages are the first that wait
abbrev pub first_waiting : Table → List Letter
first_waiting t = unnumbered (letters t.rest)

abbrev pub letters_of : Table → List (List ℕ) → Letters
letters_of t ss = letters_from 1 t (opened (first_waiting t)) ss

-- how the book is held to the table: place by place the same message, and as many
abbrev pub Agree : List Letter → List Message → Type 0
Agree es ms = map unstamped es ≡ unnumbered ms
