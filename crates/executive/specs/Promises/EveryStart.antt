-- The book of starts (02, A10), kept from the history: which starts were asked for, which of them have begun, which
-- still wait; and what is promised of it, that no start is lost.
use Rattle.std.specs.Prelude.{◌≡◌, Bool, true, not, cond, ◌||◌, List, [], ◌∷◌, ◌++◌, ℕ, suc, ◌+◌, ◌≤◌, eqb, length, get_or}
use Rattle.records.specs.declared.Call.{Call}
use Rattle.records.specs.declared.Call.TheVariants as call
use Rattle.records.specs.Numbers.{Bytes}
use Rattle.executive.specs.declared.State.TheVariants.{Ready}
use Rattle.executive.specs.declared.Request.{Request}
use Rattle.executive.specs.declared.Table.{Table}
use Rattle.executive.specs.declared.Answer.{Answer}
use Rattle.executive.specs.declared.Outcome.{Outcome}
use Rattle.executive.specs.Lists.{one, ◌and◌}
use Rattle.executive.specs.Pool.{requests}
use Rattle.executive.specs.Places.{task_at}
use Rattle.executive.specs.Plans.{caller, state_at, request_of}
use Rattle.executive.specs.States.{is_dormant}
use Rattle.executive.specs.WellFormed.{WellFormed}
use Rattle.executive.specs.Refusals.{call_in}
use Rattle.executive.specs.Step.{step_of}
use Rattle.executive.specs.Configuration.{is_configuration, fresh_table, fresh_of}
use Rattle.executive.specs.Promises.Demands.{after, AllBytes}
use Rattle.executive.specs.Promises.Worked.{along}

-- ---- a start that was asked for: the number of the step that was accepted, which names it, and what it came with
pub record Asked : Type 0 where
  pub step : ℕ
  pub target : ℕ
  pub priority : ℕ
  pub argument : ℕ

abbrev pub entry : ℕ → Request → Asked
entry i r = record { step = i; target = r.target.0; priority = r.priority; argument = r.argument }

-- the book: those asked for and those that wait, in the order of asking; those that have begun, in that of beginning
pub record Book : Type 0 where
  pub asked : List Asked
  pub begun : List Asked
  pub waiting : List Asked

-- the book is opened: nothing was asked for yet, and some may wait already; in a fresh table nothing does
abbrev pub opened : List Asked → Book
opened w = record { asked = []; begun = []; waiting = w }

-- ---- what a step is to the book: nothing, a start asked for that begins at once or must wait, the end of task k's run
pub data Turn : Type 0 where
  other : Turn
  starts : Request → Turn
  waits : Request → Turn
  ends : ℕ → Turn

-- of an accepted call: 05 asks for a start, 00 ends its caller's run. 04 asks for none, and 01 leaves what waits alone
unfoldable pub turn_of : Table → Call → Turn
turn_of t call.Terminate = ends (caller t).0
turn_of t (call.Restart p n) = other
turn_of t (call.Pause u n) = other
turn_of t (call.CancelPause k) = other
turn_of t (call.StartIfDormant o k) = other
turn_of t (call.StartOrQueue o k a) = cond (is_dormant (state_at t k)) (starts (request_of t o k a)) (waits (request_of t o k a))
turn_of t (call.Flag o f) = other
turn_of t (call.Wait m mask) = other
turn_of t (call.Alarm u n f) = other
turn_of t call.Tick = other
turn_of t (call.Granule g) = other
turn_of t (call.Task p m) = other
turn_of t call.End = other
turn_of t (call.Enter m) = other
turn_of t (call.Exit m) = other
turn_of t (call.Send k x) = other
turn_of t (call.Receive k) = other

-- of a record's bytes: a refused one is nothing to the book
unfoldable pub turn_in : Table → List ℕ → Turn
turn_in t s = cond (eqb (step_of t s).answer.number 0) (turn_of t (call_in s)) other

-- ---- the first that waits for task k, alone if there is one; all but that
unfoldable pub first_for : ℕ → List Asked → List Asked
first_for k [] = []
first_for k (e ∷ es) = cond (eqb k e.target) (e ∷ []) (first_for k es)

unfoldable pub without_first : ℕ → List Asked → List Asked
without_first k [] = []
without_first k (e ∷ es) = cond (eqb k e.target) es (e ∷ without_first k es)

-- a start that must wait goes behind all that wait
abbrev pub behind_all : Asked → List Asked → List Asked
behind_all e es = es ++ (e ∷ [])

-- step i is entered
unfoldable pub written : ℕ → Turn → Book → Book
written i other b = b
written i (starts r) b = record { asked = b.asked ++ (entry i r ∷ []); begun = b.begun ++ (entry i r ∷ []); waiting = b.waiting }
written i (waits r) b = record { asked = b.asked ++ (entry i r ∷ []); begun = b.begun; waiting = behind_all (entry i r) b.waiting }
written i (ends k) b = record { asked = b.asked; begun = b.begun ++ first_for k b.waiting; waiting = without_first k b.waiting }

-- over some records, the first of them step i; steps are numbered from 1, and w waits when the book is opened
unfoldable pub book_from : ℕ → Table → Book → List (List ℕ) → Book
book_from i t b [] = b
book_from i t b (s ∷ ss) = book_from (suc i) (step_of t s).table (written i (turn_in t s) b) ss

abbrev pub book_of : List Asked → Table → List (List ℕ) → Book
book_of w t ss = book_from 1 t (opened w) ss

-- ---- how the book is held to the table: place by place the same request, and as many
pub record Same (e : Asked) (r : Request) : Type 0 where
  pub target : e.target ≡ r.target.0
  pub priority : e.priority ≡ r.priority
  pub argument : e.argument ≡ r.argument

abbrev pub Agrees : List Asked → List Request → Type 0
Agrees [] [] = Unit {0}
Agrees [] (r ∷ rs) = ⊥
Agrees (e ∷ es) [] = ⊥
Agrees (e ∷ es) (r ∷ rs) = Same e r × Agrees es rs

-- how often step i stands in a list; the entries for task k, in order
unfoldable pub times : ℕ → List Asked → ℕ
times i [] = 0
times i (e ∷ es) = one (eqb i e.step) + times i es

unfoldable pub all_for : ℕ → List Asked → List Asked
all_for k [] = []
all_for k (e ∷ es) = cond (eqb k e.target) (e ∷ all_for k es) (all_for k es)

-- its run has begun: ready, with the priority and the argument it came with, scheduled start at the clock
pub record Begun (u : Table) (e : Asked) : Type 0 where
  pub ready : (task_at u.tasks e.target).state ≡ Ready
  pub priority : (task_at u.tasks e.target).priority ≡ e.priority
  pub argument : (task_at u.tasks e.target).argument ≡ e.argument
  pub start : (task_at u.tasks e.target).start ≡ u.rest.clock

abbrev pub AllBegun : Table → List Asked → Type 0
AllBegun u [] = Unit {0}
AllBegun u (e ∷ es) = Begun u e × AllBegun u es

-- from the book b to the book c one at most has begun, and its run stands in the table u
pub record Begins (b c : Book) (u : Table) : Type 0 where
  pub new : List Asked
  pub added : c.begun ≡ b.begun ++ new
  pub few : length new ≤ 1
  pub runs : AllBegun u new

-- ---- counted without the book: so many of the steps pass a test of the table before, the record and the outcome
unfoldable pub counted : (Table → List ℕ → Outcome → Bool) → Table → List (List ℕ) → ℕ
counted f t [] = 0
counted f t (s ∷ ss) = one (f t s (step_of t s)) + counted f (step_of t s).table ss

-- a record with this first byte is accepted
abbrev pub accepts : ℕ → List ℕ → Answer → Bool
accepts kind s a = eqb a.number 0 and eqb (get_or s 0 0) kind

abbrev pub asks05 : Table → List ℕ → Outcome → Bool
asks05 t s o = accepts 0x05 s o.answer

-- an accepted 05 with Z 0; an accepted 00 after which its caller is not dormant
abbrev pub at_once05 : Table → List ℕ → Outcome → Bool
at_once05 t s o = accepts 0x05 s o.answer and not o.answer.z

abbrev pub again00 : Table → List ℕ → Outcome → Bool
again00 t s o = accepts 0x00 s o.answer and not (is_dormant (state_at o.table (caller t)))

abbrev pub begins? : Table → List ℕ → Outcome → Bool
begins? t s o = at_once05 t s o || again00 t s o

-- ---- the account over the records ss from the table t, where w waited at the start
pub record Account (w : List Asked) (t : Table) (ss : List (List ℕ)) : Type 0 where
  -- what waits is the pool, place by place
  pub pool : Agrees (book_of w t ss).waiting (requests (after t ss).rest)
  -- each step that was accepted stands once among those that have begun and those that wait: never lost, never both,
  -- never twice
  pub once : (i : ℕ) → times i (book_of w t ss).begun + times i (book_of w t ss).waiting ≡ times i w + times i (book_of w t ss).asked
  pub single : (i : ℕ) → times i (book_of w t ss).asked ≤ 1
  -- for each task those that have begun, and then those that wait, are those asked for, in that order, each with its
  -- step, priority and argument
  pub order : (k : ℕ) → all_for k w ++ all_for k (book_of w t ss).asked ≡ all_for k (book_of w t ss).begun ++ all_for k (book_of w t ss).waiting
  -- the number accepted is the number waiting and the number begun
  pub number : length w + length (book_of w t ss).asked ≡ length (book_of w t ss).waiting + length (book_of w t ss).begun
  pub queued : length (book_of w t ss).waiting ≡ (after t ss).rest.queued
  -- the same numbers, counted over records, answers and tables alone
  pub accepted : length (book_of w t ss).asked ≡ counted asks05 t ss
  pub seen : length (book_of w t ss).begun ≡ counted begins? t ss
  -- each step of it begins one at most, which runs in the table right after the step
  pub runs : (before later : List (List ℕ)) (s : List ℕ) → ss ≡ before ++ (s ∷ later)
      → Begins (book_of w t before) (book_of w t (before ++ (s ∷ []))) (after t (before ++ (s ∷ [])))

-- ---- one history worked out
-- granule 10; tasks 1 and 2 at priority 5 are started, task 3 at priority 3 is not
abbrev pub configuration : List ℕ
configuration = 0x40 ∷ 0x0A ∷ 0x41 ∷ 5 ∷ 1 ∷ 0x41 ∷ 5 ∷ 1 ∷ 0x41 ∷ 3 ∷ 0 ∷ 0x42 ∷ []

-- 1 asks twice for 2, which is busy, and once for 3, which is dormant; 1 pauses; 2 restarts by 01, at once, and then
-- ends by 00
abbrev pub records : List (List ℕ)
records =
    (0x05 ∷ 0x80 ∷ 2 ∷ 1 ∷ 44 ∷ [])
    ∷ (0x05 ∷ 0x06 ∷ 2 ∷ 0 ∷ 8 ∷ [])
    ∷ (0x05 ∷ 0x90 ∷ 3 ∷ 0 ∷ 9 ∷ [])
    ∷ (0x02 ∷ 0 ∷ 20 ∷ [])
    ∷ (0x01 ∷ 0x80 ∷ 0 ∷ [])
    ∷ (0x00 ∷ [])
    ∷ []

abbrev pub asked_at : ℕ → ℕ → ℕ → ℕ → Asked
asked_at i k p a = record { step = i; target = k; priority = p; argument = a }

pub record WorkedStarts : Type 0 where
  pub numbers : along (λ (o : Outcome). o.answer.number) (fresh_of configuration).table records ≡ 0 ∷ 0 ∷ 0 ∷ 0 ∷ 0 ∷ 0 ∷ []
  pub actives : along (λ (o : Outcome). o.answer.active.0) (fresh_of configuration).table records ≡ 1 ∷ 1 ∷ 1 ∷ 2 ∷ 2 ∷ 2 ∷ []
  pub asked : (book_of [] (fresh_of configuration).table records).asked ≡ asked_at 1 2 5 300 ∷ asked_at 2 2 6 8 ∷ asked_at 3 3 3 0 ∷ []
  pub begun : (book_of [] (fresh_of configuration).table records).begun ≡ asked_at 3 3 3 0 ∷ asked_at 1 2 5 300 ∷ []
  pub waiting : (book_of [] (fresh_of configuration).table records).waiting ≡ asked_at 2 2 6 8 ∷ []

-- ---- all of it
pub record EveryStart : Type 0 where
  -- from the fresh table of any configuration, over any records, refused ones included; nothing waits at the start
  pub fresh : (g : List ℕ) (ss : List (List ℕ)) → Bytes g → is_configuration g ≡ true → AllBytes ss → Account [] (fresh_table g) ss
  -- from any well-formed table, where w waits at the start: counts begin anew there
  pub from-any : (t : Table) (w : List Asked) (ss : List (List ℕ)) → WellFormed t → Agrees w (requests t.rest) → AllBytes ss → Account w t ss
  pub example : WorkedStarts
