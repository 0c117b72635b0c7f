-- What the entry points answer and leave in their buffers, for every input.
use Rattle.std.specs.Prelude.{ℕ, ◌≤◌, ◌<◌, ◌≡◌, true, cond, List, [], ◌∷◌, ◌↔◌, eqb, ltb, length, Option, None, Some}
use Rattle.records.specs.Numbers.{number_of, part, lay}
use Rattle.executive.specs.declared.Answer.{Answer}
use Rattle.executive.specs.declared.Table.{Table}
use Rattle.executive.specs.Places.{task_at}
use Rattle.executive.specs.Plans.{caller}
use Rattle.executive.specs.Lamp.{lamp_of}
use Rattle.executive.specs.Lists.{one}
use Rattle.executive.specs.WellFormed.{WellFormed}
use Rattle.executive.specs.Check.{is_well_formed}
use Rattle.executive.specs.Step.{no_table, step_of}
use Rattle.executive.specs.Configuration.{fresh_of}
use Rattle.executive.specs.Promises.Demands.{after, Overtaking}
use Rattle.image.specs.Blocks.{written}
use Rattle.image.specs.Image.{no_room, levels_at, image_length, image_of, load_of, is_image}

-- ---- the check: 0 exactly where the bytes are the image of a well-formed table, else 1
unfoldable pub check_number : List ℕ → ℕ
check_number s = cond (is_image s) (cond (is_well_formed (load_of s)) 0 1) 1

pub record WellFormedImage (s : List ℕ) : Type 0 where
  pub image : is_image s ≡ true
  pub table : WellFormed (load_of s)

pub record CheckedImage (s : List ℕ) (n : ℕ) : Type 0 where
  pub number : n ≡ check_number s
  pub right : (n ≡ 0) ↔ WellFormedImage s

-- ---- the bytes are an image, and load to this table
pub record Holds (s : List ℕ) (t : Table) : Type 0 where
  pub image : is_image s ≡ true
  pub loads : load_of s ≡ t

-- ---- a fresh table from configuration bytes: 30 where the buffer has not the image's length, else the number of
-- making it; written only with 0
unfoldable pub fresh_number : List ℕ → List ℕ → ℕ
fresh_number config o = cond (eqb (length o) image_length) (fresh_of config).answer.number no_room

unfoldable pub fresh_image : List ℕ → List ℕ → List ℕ
fresh_image config o = cond (eqb (fresh_number config o) 0) (image_of (fresh_of config).table) o

-- the contract: n is what making a table from config in the buffer o answers, and o then is p
pub record MakesImage (config o p : List ℕ) (n : ℕ) : Type 0 where
  pub number : n ≡ fresh_number config o
  pub image : p ≡ fresh_image config o
  pub holds : n ≡ 0 → Holds p (fresh_of config).table

-- ---- an answer's bytes: number, Z, V, C, active task, ready tasks passed over, argument, grid times passed over; of the
-- message that is handed out the sender and the text
abbrev pub answer_widths : List ℕ
answer_widths = 1 ∷ 1 ∷ 1 ∷ 1 ∷ 1 ∷ 1 ∷ 2 ∷ 8 ∷ 1 ∷ 8 ∷ []

abbrev pub answer_length : ℕ
answer_length = 25

-- where the active task stands
abbrev pub active_at : ℕ
active_at = 4

abbrev pub answer_bytes : Answer → List ℕ
answer_bytes a =
    lay answer_widths
    (a.number ∷ one a.z ∷ one a.v ∷ one a.c ∷ a.active.0 ∷ a.walked ∷ a.argument ∷ a.skipped ∷ a.sender.0 ∷ a.text.0 ∷ [])

-- the executive's own answer (bytes that are no image are no well-formed table), and the image of its own table
-- where the step is accepted; a refusal keeps every byte
unfoldable pub answer_to : List ℕ → List ℕ → Answer
answer_to s call = cond (is_image s) (step_of (load_of s) call).answer no_table

unfoldable pub image_after : List ℕ → List ℕ → List ℕ
image_after s call = cond (eqb (answer_to s call).number 0) (image_of (step_of (load_of s) call).table) s

-- ---- a step: 30 where the answer's buffer is too short, and then no byte of any buffer changes
unfoldable pub step_number : List ℕ → List ℕ → List ℕ → ℕ
step_number s call o = cond (ltb (length o) answer_length) no_room (answer_to s call).number

unfoldable pub step_image : List ℕ → List ℕ → List ℕ → List ℕ
step_image s call o = cond (ltb (length o) answer_length) s (image_after s call)

unfoldable pub step_answer : List ℕ → List ℕ → List ℕ → List ℕ
step_answer s call o = cond (ltb (length o) answer_length) o (written o 0 (answer_bytes (answer_to s call)))

-- the contract: n is what the step of call at the image s answers, the buffer o lent for the answer; s then is p, o
-- is q
pub record StepsImage (s call o p q : List ℕ) (n : ℕ) : Type 0 where
  pub number : n ≡ step_number s call o
  pub image : p ≡ step_image s call o
  pub answer : q ≡ step_answer s call o
  pub holds : n ≡ 0 → Holds p (step_of (load_of s) call).table

-- ---- the lamp: the level that the word of an image shows, and 16 where it is dark or the bytes have not an image's
-- length; of the bytes the word's two are looked at, and no other
abbrev pub lamp_dark : ℕ
lamp_dark = 16

abbrev pub lamp_byte : Option ℕ → ℕ
lamp_byte None = lamp_dark
lamp_byte (Some p) = p

unfoldable pub lamp_number : List ℕ → ℕ
lamp_number s = cond (eqb (length s) image_length) (lamp_byte (lamp_of (number_of (part 2 levels_at s)))) lamp_dark

-- the contract: n is what the lamp shows of the bytes s
abbrev pub ReadsLamp : List ℕ → ℕ → Type 0
ReadsLamp s n = n ≡ lamp_number s

-- the lamp of an image whose table is t: its active task's priority, and 16 exactly when idle
pub record ShowsImage (s : List ℕ) (t : Table) : Type 0 where
  pub level : 0 < (caller t).0 → lamp_number s ≡ (task_at t.tasks (caller t).0).priority
  pub dark : (lamp_number s ≡ lamp_dark) ↔ ((caller t).0 ≡ 0)

-- ---- a history of images: from s to p by calls one after the other, each with room for its answer
pub record Stepped (s call p : List ℕ) : Type 0 where
  pub before : List ℕ
  pub after : List ℕ
  pub number : ℕ
  pub room : answer_length ≤ length before
  pub steps : StepsImage s call before p after number

abbrev pub Runs : List ℕ → List (List ℕ) → List ℕ → Type 0
Runs s [] p = s ≡ p
Runs s (call ∷ calls) p = (u : List ℕ) × Stepped s call u × Runs u calls p

-- demand 3 of task k over such a history: it holds of the tables, and the image p is that of the table after the calls
pub record OvertakingImage (s : List ℕ) (k : ℕ) (calls : List (List ℕ)) (p : List ℕ) : Type 0 where
  pub tables : Overtaking (load_of s) k calls
  pub image : WellFormedImage p
  pub loads : load_of p ≡ after (load_of s) calls
