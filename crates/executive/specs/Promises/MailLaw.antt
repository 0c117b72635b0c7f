-- What is promised of messages (02, A8): each accepted one waits or was handed over, once; in which order, to whom, and that
-- what stands in an entry stands there until it may go.
use Rattle.std.specs.Prelude.{◌≡◌, ◌⊎◌, Bool, true, false, ◌||◌, List, [], ◌∷◌, ◌++◌, ℕ, ◌+◌, ◌≤◌, ◌<◌, eqb, length, get_or}
use Rattle.records.specs.Numbers.{Bytes}
use Rattle.executive.specs.declared.State.TheVariants.{Ready}
use Rattle.executive.specs.declared.Message.{Message}
use Rattle.executive.specs.declared.Table.{Table}
use Rattle.executive.specs.declared.Answer.{Answer}
use Rattle.executive.specs.declared.Outcome.{Outcome}
use Rattle.executive.specs.Lists.{◌and◌}
use Rattle.executive.specs.Places.{task_at}
use Rattle.executive.specs.States.{takes}
use Rattle.executive.specs.Messages.{no_message, no_mail, letters, fits, first_fit, mail_at}
use Rattle.executive.specs.Plans.{caller}
use Rattle.executive.specs.WellFormed.{WellFormed}
use Rattle.executive.specs.Step.{step_of}
use Rattle.executive.specs.Configuration.{is_configuration, fresh_table}
use Rattle.executive.specs.Letters.{Letter, Letters, letters_of, first_waiting, Agree, of_these, times_of}
use Rattle.executive.specs.Promises.Demands.{after, AllBytes}
use Rattle.executive.specs.Promises.EveryStart.{counted, accepts}

-- an accepted 14; an accepted 15
abbrev pub sends14 : Table → List ℕ → Outcome → Bool
sends14 t s o = accepts 0x14 s o.answer

abbrev pub receives15 : Table → List ℕ → Bool
receives15 t s = accepts 0x15 s (step_of t s).answer

-- ---- the account over the records ss from the table t
pub record LetterAccount (t : Table) (ss : List (List ℕ)) : Type 0 where
  -- what waits in the book is what waits in the table, place by place
  pub line : Agree (letters_of t ss).waiting (letters (after t ss).rest)
  -- each step that was accepted stands once among those handed over and those that wait: never lost, never both, never twice
  pub once : (i : ℕ) → 0 < i
      → times_of i (letters_of t ss).handed + times_of i (letters_of t ss).waiting ≡ times_of i (letters_of t ss).posted
  pub single : (i : ℕ) → times_of i (letters_of t ss).posted ≤ 1
  -- for each addressee, sender and priority those handed over, and then those that wait, are those that waited at the start
  -- and those accepted since, in that order
  pub in_order : (k s p : ℕ) → of_these k s p (first_waiting t) ++ of_these k s p (letters_of t ss).posted
      ≡ of_these k s p (letters_of t ss).handed ++ of_these k s p (letters_of t ss).waiting
  -- the number accepted, with those that waited at the start, is the number waiting and the number handed over
  pub number : length (first_waiting t) + length (letters_of t ss).posted ≡ length (letters_of t ss).waiting + length (letters_of t ss).handed
  -- the same numbers, over records, answers and tables alone
  pub accepted : length (letters_of t ss).posted ≡ counted sends14 t ss
  pub waiting : length (letters_of t ss).waiting ≡ (after t ss).rest.sent

-- ---- one step, from the table t by the record s to the table u with answer a
-- the letter e was told: by the answer of its addressee's receive, or in the entry of its addressee, whom a send made ready
pub record ToldInAnswer (t : Table) (s : List ℕ) (a : Answer) (e : Letter) : Type 0 where
  pub receive : accepts 0x15 s a ≡ true
  pub to : e.to ≡ (caller t).0
  pub sender : a.sender.0 ≡ e.sender
  pub text : a.text.0 ≡ e.text

pub record ToldInEntry (t : Table) (s : List ℕ) (a : Answer) (u : Table) (e : Letter) : Type 0 where
  pub send : accepts 0x14 s a ≡ true
  pub by : e.sender ≡ (caller t).0
  pub ready : (task_at u.tasks e.to).state ≡ Ready
  pub sender : (mail_at u.rest.mail e.to).sender.0 ≡ e.sender
  pub text : (mail_at u.rest.mail e.to).text.0 ≡ e.text

abbrev pub AllTold : Table → List ℕ → Answer → Table → List Letter → Type 0
AllTold t s a u [] = Unit {0}
AllTold t s a u (e ∷ es) = (ToldInAnswer t s a e ⊎ ToldInEntry t s a u e) × AllTold t s a u es

-- from the book b to the book c one at most is handed over, and it is told
pub record HandsOver (b c : Letters) (t : Table) (s : List ℕ) : Type 0 where
  pub new : List Letter
  pub added : c.handed ≡ b.handed ++ new
  pub few : length new ≤ 1
  pub told : AllTold t s (step_of t s).answer (step_of t s).table new

-- the answer has a sender and a text only where a message is handed out by it: else zeros
pub record SaysNothing (a : Answer) : Type 0 where
  pub sender : a.sender.0 ≡ 0
  pub text : a.text.0 ≡ 0

-- ---- the record s is an accepted 00, 01 or 15 of task k; an accepted 14 that delivers to task k
abbrev pub empties? : Table → List ℕ → ℕ → Bool
empties? t s k =
    eqb k (caller t).0 and (accepts 0x00 s (step_of t s).answer || (accepts 0x01 s (step_of t s).answer || accepts 0x15 s (step_of t s).answer))

abbrev pub fills? : Table → List ℕ → ℕ → Bool
fills? t s k = eqb k (get_or s 1 0) and accepts 0x14 s (step_of t s).answer and takes (caller t).0 (task_at t.tasks k).state

-- ---- of the messages ms the one at place i is the first of those that fit task k, from number x: it fits, none that fits has
-- a higher priority, and of its equals it waited longest
pub record FirstOfFitting (k x : ℕ) (ms : List Message) (i : ℕ) : Type 0 where
  pub fitting : fits k x (get_or ms i no_message) ≡ true
  pub highest : (j : ℕ) → j < length ms → fits k x (get_or ms j no_message) ≡ true → (get_or ms j no_message).priority ≤ (get_or ms i no_message).priority
  pub longest : (j : ℕ) → j < length ms → fits k x (get_or ms j no_message) ≡ true → (get_or ms j no_message).priority ≡ (get_or ms i no_message).priority
      → i ≤ j

-- the answer a of a receive s tells the message at place i of those that wait, which is the first that fits
abbrev pub fit_place : Table → List ℕ → ℕ
fit_place t s = first_fit (caller t).0 (get_or s 1 0) (letters t.rest)

pub record TellsFirst (t : Table) (s : List ℕ) (a : Answer) (i : ℕ) : Type 0 where
  pub first : FirstOfFitting (caller t).0 (get_or s 1 0) (letters t.rest) i
  pub sender : a.sender ≡ (get_or (letters t.rest) i no_message).sender
  pub text : a.text ≡ (get_or (letters t.rest) i no_message).text

pub record MailLaw : Type 0 where
  -- from any well-formed table, over any records, refused ones included; so also after mending
  pub from-any : (t : Table) (ss : List (List ℕ)) → WellFormed t → AllBytes ss → LetterAccount t ss
  -- from a fresh table, where nothing waits: the number accepted is those waiting and those handed over
  pub counted : (g : List ℕ) (ss : List (List ℕ)) → Bytes g → is_configuration g ≡ true → AllBytes ss
      → length (letters_of (fresh_table g) ss).posted ≡ length (letters_of (fresh_table g) ss).waiting + length (letters_of (fresh_table g) ss).handed
  -- each step of a history hands over one at most, and tells it; no other answer tells a sender or a text
  pub handed-is-told : (t : Table) (before : List (List ℕ)) (s : List ℕ) → WellFormed t → AllBytes before → Bytes s
      → HandsOver (letters_of t before) (letters_of t (before ++ (s ∷ []))) (after t before) s
  pub none_told : (t : Table) (s : List ℕ) → Bytes s → receives15 t s ≡ false → SaysNothing (step_of t s).answer
  -- a task's mail stands until an accepted receive, 00 or 01 of that task, or an accepted send that delivers to it
  pub mail-stands : (t : Table) (s : List ℕ) (k : ℕ) → WellFormed t → Bytes s → (empties? t s k || fills? t s k) ≡ false
      → mail_at (step_of t s).table.rest.mail k ≡ mail_at t.rest.mail k
  pub mail-gone : (t : Table) (s : List ℕ) (k : ℕ) → WellFormed t → Bytes s → empties? t s k ≡ true
      → mail_at (step_of t s).table.rest.mail k ≡ no_mail
  -- what a receive hands out is the first of those that fit; where none fits, it tells nothing
  pub first-handed : (t : Table) (s : List ℕ) → WellFormed t → Bytes s → receives15 t s ≡ true → fit_place t s < length (letters t.rest)
      → TellsFirst t s (step_of t s).answer (fit_place t s)
  pub none_found : (t : Table) (s : List ℕ) → Bytes s → receives15 t s ≡ true → length (letters t.rest) ≤ fit_place t s
      → SaysNothing (step_of t s).answer
  -- a delivered message's place can be used again: after a receive that handed one out, a send that was refused is accepted
  pub room-again : (t : Table) (s q : List ℕ) → WellFormed t → Bytes s → Bytes q → (step_of t s).answer.number ≡ 16
      → receives15 t q ≡ true → (step_of t q).table.rest.sent < t.rest.sent → (step_of (step_of t q).table s).answer.number ≡ 0
