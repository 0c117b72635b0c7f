-- The answer as text, in ASCII codes: a line for the clock, a line a step, and a line for the ring where there is one.
use Rattle.std.specs.Prelude.{ℕ, zero, suc, ◌/◌, ◌%◌, ◌^◌, cond, List, [], ◌∷◌, ◌++◌, eqb}
use Rattle.records.specs.declared.TaskNo.{TaskNo}
use Rattle.executive.specs.declared.Millis.{Millis}
use Rattle.executive.specs.declared.Mode.{Mode}
use Rattle.executive.specs.declared.Mode.TheVariants.{Any, All}
use Rattle.executive.specs.Numbers.{flag_count}
use Rattle.text.specs.Glyphs.{decimal_of, Puts}
use Rattle.why.specs.declared.Cause.{Cause}
use Rattle.why.specs.declared.Cause.TheVariants as cause
use Rattle.why.specs.declared.Step.{Step}
use Rattle.why.specs.declared.Reasons.{Reasons}
use Rattle.why.specs.Paths.{path_in, ring_in}

-- ---- the words, each above its codes; a blank in front or behind is one of them
-- clock
abbrev pub clock_word : List ℕ
clock_word = 99 ∷ 108 ∷ 111 ∷ 99 ∷ 107 ∷ 32 ∷ []

-- ms
abbrev pub ms_word : List ℕ
ms_word = 32 ∷ 109 ∷ 115 ∷ []

-- task
abbrev pub task_word : List ℕ
task_word = 116 ∷ 97 ∷ 115 ∷ 107 ∷ 32 ∷ []

-- is dormant
abbrev pub dormant_words : List ℕ
dormant_words = 32 ∷ 105 ∷ 115 ∷ 32 ∷ 100 ∷ 111 ∷ 114 ∷ 109 ∷ 97 ∷ 110 ∷ 116 ∷ []

-- is active
abbrev pub active_words : List ℕ
active_words = 32 ∷ 105 ∷ 115 ∷ 32 ∷ 97 ∷ 99 ∷ 116 ∷ 105 ∷ 118 ∷ 101 ∷ []

-- is ready, behind
abbrev pub ready_words : List ℕ
ready_words = 32 ∷ 105 ∷ 115 ∷ 32 ∷ 114 ∷ 101 ∷ 97 ∷ 100 ∷ 121 ∷ 44 ∷ 32 ∷ 98 ∷ 101 ∷ 104 ∷ 105 ∷ 110 ∷ 100 ∷ 32 ∷ []

-- is paused until
abbrev pub paused_words : List ℕ
paused_words = 32 ∷ 105 ∷ 115 ∷ 32 ∷ 112 ∷ 97 ∷ 117 ∷ 115 ∷ 101 ∷ 100 ∷ 32 ∷ 117 ∷ 110 ∷ 116 ∷ 105 ∷ 108 ∷ 32 ∷ []

-- is due to restart at
abbrev pub due_words : List ℕ
due_words = 32 ∷ 105 ∷ 115 ∷ 32 ∷ 100 ∷ 117 ∷ 101 ∷ 32 ∷ 116 ∷ 111 ∷ 32 ∷ 114 ∷ 101 ∷ 115 ∷ 116 ∷ 97 ∷ 114 ∷ 116 ∷ 32 ∷ 97 ∷ 116 ∷ 32 ∷ []

-- waits for
abbrev pub waits_words : List ℕ
waits_words = 32 ∷ 119 ∷ 97 ∷ 105 ∷ 116 ∷ 115 ∷ 32 ∷ 102 ∷ 111 ∷ 114 ∷ 32 ∷ []

-- any
abbrev pub any_word : List ℕ
any_word = 97 ∷ 110 ∷ 121 ∷ []

-- all
abbrev pub all_word : List ℕ
all_word = 97 ∷ 108 ∷ 108 ∷ []

-- of its flags, missing
abbrev pub flags_words : List ℕ
flags_words = 32 ∷ 111 ∷ 102 ∷ 32 ∷ 105 ∷ 116 ∷ 115 ∷ 32 ∷ 102 ∷ 108 ∷ 97 ∷ 103 ∷ 115 ∷ 44 ∷ 32 ∷ 109 ∷ 105 ∷ 115 ∷ 115 ∷ 105 ∷ 110 ∷ 103 ∷ []

-- request
abbrev pub request_word : List ℕ
request_word = 114 ∷ 101 ∷ 113 ∷ 117 ∷ 101 ∷ 115 ∷ 116 ∷ 32 ∷ []

-- to begin, on task
abbrev pub begin_words : List ℕ
begin_words = 32 ∷ 116 ∷ 111 ∷ 32 ∷ 98 ∷ 101 ∷ 103 ∷ 105 ∷ 110 ∷ 44 ∷ 32 ∷ 111 ∷ 110 ∷ 32 ∷ 116 ∷ 97 ∷ 115 ∷ 107 ∷ 32 ∷ []

-- the end of
abbrev pub end_of_words : List ℕ
end_of_words = 116 ∷ 104 ∷ 101 ∷ 32 ∷ 101 ∷ 110 ∷ 100 ∷ 32 ∷ 111 ∷ 102 ∷ 32 ∷ []

-- 's run, on task
abbrev pub run_on_words : List ℕ
run_on_words = 39 ∷ 115 ∷ 32 ∷ 114 ∷ 117 ∷ 110 ∷ 44 ∷ 32 ∷ 111 ∷ 110 ∷ 32 ∷ 116 ∷ 97 ∷ 115 ∷ 107 ∷ 32 ∷ []

-- 's run
abbrev pub run_words : List ℕ
run_words = 39 ∷ 115 ∷ 32 ∷ 114 ∷ 117 ∷ 110 ∷ []

-- subprogram
abbrev pub subprogram_word : List ℕ
subprogram_word = 115 ∷ 117 ∷ 98 ∷ 112 ∷ 114 ∷ 111 ∷ 103 ∷ 114 ∷ 97 ∷ 109 ∷ 32 ∷ []

-- , held by task
abbrev pub held_words : List ℕ
held_words = 44 ∷ 32 ∷ 104 ∷ 101 ∷ 108 ∷ 100 ∷ 32 ∷ 98 ∷ 121 ∷ 32 ∷ 116 ∷ 97 ∷ 115 ∷ 107 ∷ 32 ∷ []

-- a message from
abbrev pub message_from_words : List ℕ
message_from_words = 97 ∷ 32 ∷ 109 ∷ 101 ∷ 115 ∷ 115 ∷ 97 ∷ 103 ∷ 101 ∷ 32 ∷ 102 ∷ 114 ∷ 111 ∷ 109 ∷ 32 ∷ []

-- any task
abbrev pub any_task_words : List ℕ
any_task_words = 97 ∷ 110 ∷ 121 ∷ 32 ∷ 116 ∷ 97 ∷ 115 ∷ 107 ∷ []

-- ring
abbrev pub ring_word : List ℕ
ring_word = 114 ∷ 105 ∷ 110 ∷ 103 ∷ []

-- refused
abbrev pub refused_word : List ℕ
refused_word = 114 ∷ 101 ∷ 102 ∷ 117 ∷ 115 ∷ 101 ∷ 100 ∷ 32 ∷ []

-- words and a number; words, a number, words
abbrev pub worded_of : List ℕ → ℕ → List ℕ
worded_of before n = before ++ decimal_of n

abbrev pub said_of : List ℕ → ℕ → List ℕ → List ℕ
said_of before n after = worded_of before n ++ after

-- the numbers of the bits of x below n, a blank before each
unfoldable pub bits_of : ℕ → ℕ → List ℕ
bits_of x zero = []
bits_of x (suc n) = bits_of x n ++ cond (eqb (x / 2 ^ n % 2) 1) (32 ∷ decimal_of n) []

abbrev pub mode_words : Mode → List ℕ
mode_words Any = waits_words ++ (any_word ++ flags_words)
mode_words All = waits_words ++ (all_word ++ flags_words)

abbrev pub message_words : TaskNo → List ℕ
message_words s =
    cond (eqb s.0 0) (waits_words ++ (message_from_words ++ any_task_words)) (worded_of (waits_words ++ (message_from_words ++ task_word)) s.0)

-- why a task is not running
abbrev pub cause_text : Cause → List ℕ
cause_text cause.Dormant = dormant_words
cause_text cause.Active = active_words
cause_text (cause.Ready n) = worded_of ready_words n
cause_text (cause.Paused at) = said_of paused_words at.0 ms_word
cause_text (cause.Due at) = said_of due_words at.0 ms_word
cause_text (cause.Flags m x) = mode_words m ++ bits_of x flag_count
cause_text (cause.Start p j) = said_of (waits_words ++ request_word) p begin_words ++ decimal_of j.0
cause_text (cause.EndOfRequest p j) = said_of (waits_words ++ (end_of_words ++ request_word)) p run_on_words ++ decimal_of j.0
cause_text (cause.EndOfRun j) = said_of (waits_words ++ (end_of_words ++ task_word)) j.0 run_words
cause_text (cause.Subprogram m j) = said_of (waits_words ++ subprogram_word) m.0 held_words ++ decimal_of j.0
cause_text (cause.Message s) = message_words s

-- the line of a step, and those of some steps
unfoldable pub step_line : Step → List ℕ
step_line s = worded_of task_word s.task.0 ++ (cause_text s.cause ++ (10 ∷ []))

unfoldable pub step_lines : List Step → List ℕ
step_lines [] = []
step_lines (s ∷ ss) = step_line s ++ step_lines ss

-- the tasks of some steps, a blank before each; the line of a ring, and none where there is no ring
unfoldable pub task_numbers : List Step → List ℕ
task_numbers [] = []
task_numbers (s ∷ ss) = (32 ∷ decimal_of s.task.0) ++ task_numbers ss

unfoldable pub ring_line : List Step → List ℕ
ring_line [] = []
ring_line (s ∷ ss) = ring_word ++ (task_numbers (s ∷ ss) ++ (10 ∷ []))

-- the whole text: of a refusal its number alone
unfoldable pub text_of : Reasons → Millis → List ℕ
text_of r clock =
    cond (eqb r.number 0) (said_of clock_word clock.0 (ms_word ++ (10 ∷ [])) ++ (step_lines (path_in r) ++ ring_line (ring_in r)))
    (said_of refused_word r.number (10 ∷ []))

-- ---- the contract: the text stands at the buffer's start, and its length is answered; where it does not fit nothing
-- is written and 0 is answered
abbrev pub Tells : Reasons → Millis → List ℕ → List ℕ → ℕ → Type 0
Tells r clock o b n = Puts o 0 (text_of r clock) b n
