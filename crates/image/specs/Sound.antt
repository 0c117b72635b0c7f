-- What the check on the lent bytes says on its way: the loaded lists, bytes that are all zero, sets of tasks as words, the
-- rules on one entry part by part.
use Rattle.std.specs.Prelude.{ℕ, zero, suc, ◌+◌, ◌*◌, ◌^◌, ◌≤◌, ◌<◌, Bool, true, false, not, cond, List, [], ◌∷◌, eqb, leb, ltb, get_or}
use Rattle.std.specs.Int.Bits.{bit_or}
use Rattle.records.specs.Numbers.{number_of, part}
use Rattle.executive.specs.declared.State.{State}
use Rattle.executive.specs.declared.Task.{Task}
use Rattle.executive.specs.declared.Request.{Request}
use Rattle.executive.specs.declared.Sub.{Sub}
use Rattle.executive.specs.declared.Message.{Message}
use Rattle.executive.specs.declared.Mail.{Mail}
use Rattle.executive.specs.Numbers.{highest}
use Rattle.executive.specs.Lists.{◌and◌}
use Rattle.executive.specs.Places.{no_task, task_at}
use Rattle.executive.specs.States.{is_of}
use Rattle.executive.specs.Flags.{is_set}
use Rattle.executive.specs.Check.{awaits_in_range, is_timely, is_unmet, entry_right}
use Rattle.image.specs.Blocks.{blocks}
use Rattle.image.specs.Image.{load_of}
use Rattle.image.specs.Coding.{is_code}

-- ---- the lists that bytes load to
abbrev pub tasks_in : List ℕ → List Task
tasks_in s = (load_of s).tasks

abbrev pub pool_in : List ℕ → List Request
pool_in s = (load_of s).rest.pool

abbrev pub subs_in : List ℕ → List Sub
subs_in s = (load_of s).rest.subs

abbrev pub messages_in : List ℕ → List Message
messages_in s = (load_of s).rest.messages

abbrev pub mail_in : List ℕ → List Mail
mail_in s = (load_of s).rest.mail

-- ---- n bytes from a place on are all zero
unfoldable pub noughts : List ℕ → ℕ → ℕ → Bool
noughts s zero at = true
noughts s (suc n) at = cond (eqb (get_or s at 0) 0) (noughts s n (suc at)) false

-- ---- a set of tasks is a word, bit k for task k. Of those named among n tasks: bit 0 once one of them is named twice; a
-- number that names none of them changes nothing
unfoldable pub naming : ℕ → ℕ → ℕ → ℕ
naming n w k = cond (ltb 0 k and leb k n) (cond (is_set w k) (bit_or w 1) (bit_or w (2 ^ k))) w

unfoldable pub namings : ℕ → ℕ → List ℕ → ℕ
namings n w [] = w
namings n w (k ∷ ks) = namings n (naming n w k) ks

-- the numbers that stand in single bytes, from a place on and each w places after the one before
abbrev pub names_in : List ℕ → ℕ → ℕ → ℕ → List ℕ
names_in s w n at = blocks (λ (p : ℕ). get_or s p 0) w n at

-- those of n tasks who pass a test
unfoldable pub set_of : (ℕ → Bool) → ℕ → ℕ
set_of f zero = 0
set_of f (suc n) = bit_or (set_of f n) (cond (f (suc n)) (2 ^ suc n) 0)

-- whether task k waits in a way; whether its run does not name itself as its waiter
abbrev pub waits_as : ℕ → List Task → ℕ → Bool
waits_as kind ts k = is_of kind (task_at ts k).state

abbrev pub names_other : List Task → ℕ → Bool
names_other ts k = not (eqb k (task_at ts k).end_waiter.0)

-- ---- the rules on one entry, of n tasks, at the clock c with the flags fs: of its own priority o, its priority p, its waiter
-- w and its last scheduled start s; of its state
abbrev pub fields_right : ℕ → ℕ → ℕ → ℕ → ℕ → ℕ → Bool
fields_right n c o p w s = leb o highest and leb p highest and leb w n and leb s c

abbrev pub state_right : ℕ → ℕ → ℕ → State → Bool
state_right n c fs s = awaits_in_range n s and is_timely c s and is_unmet fs s

-- ---- the i-th entry: its numbers are those of the state that they make; and it keeps the rules on one entry, and its run does
-- not name itself. Its kind's byte is a kind
abbrev pub code_at : List ℕ → ℕ → Bool
code_at s i = is_code (get_or s (i * 26 + 1) 0) (record { 0 = number_of (part 8 (i * 26 + 2) s) }) (number_of (part 4 (i * 26 + 10) s)) (get_or s (898 + i) 0)

abbrev pub sound_at : List ℕ → ℕ → ℕ → ℕ → ℕ → Bool
sound_at s n c fs i = code_at s i and entry_right n c fs (get_or (tasks_in s) i no_task) and names_other (tasks_in s) (suc i)

abbrev pub KindsKnown : List ℕ → ℕ → Type 0
KindsKnown s n = (i : ℕ) → i < n → get_or s (i * 26 + 1) 0 ≤ 9

-- a test at each number below n
unfoldable pub below : (ℕ → Bool) → ℕ → Bool
below f zero = true
below f (suc n) = cond (below f n) (f n) false
