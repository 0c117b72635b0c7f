-- What the second engine's entry points answer and leave in their buffers, for every input.
use Rattle.std.specs.Prelude.{ℕ, ◌≡◌, true, cond, List, ◌↔◌, eqb, ltb, length}
use Rattle.executive.specs.declared.Answer.{Answer}
use Rattle.executive.specs.Step.{no_table}
use Rattle.scan.specs.declared.Scanned.{Scanned}
use Rattle.scan.specs.Sound.{SoundScan, is_sound}
use Rattle.scan.specs.Step.{scan_of}
use Rattle.scan.specs.Making.{made_of}
use Rattle.image.specs.Blocks.{written}
use Rattle.image.specs.Image.{no_room}
use Rattle.image.specs.EntryPoints.{answer_length, answer_bytes}
use Rattle.scan_board.specs.Image.{scan_length, scan_image, scan_load, is_scan}

-- ---- the check: 0 exactly where the bytes are the image of a well-formed table, else 1
unfoldable pub check_number : List ℕ → ℕ
check_number s = cond (is_scan s) (cond (is_sound (scan_load s)) 0 1) 1

pub record SoundImage (s : List ℕ) : Type 0 where
  pub image : is_scan s ≡ true
  pub table : SoundScan (scan_load s)

pub record CheckedScan (s : List ℕ) (n : ℕ) : Type 0 where
  pub number : n ≡ check_number s
  pub right : (n ≡ 0) ↔ SoundImage s

-- ---- the bytes are an image, and load to this table
pub record HoldsScan (s : List ℕ) (e : Scanned) : Type 0 where
  pub image : is_scan s ≡ true
  pub loads : scan_load s ≡ e

-- ---- a fresh table from configuration bytes: 30 where the buffer has not the image's length, else the number of
-- making it; written only with 0
unfoldable pub fresh_number : List ℕ → List ℕ → ℕ
fresh_number config o = cond (eqb (length o) scan_length) (made_of config).number no_room

unfoldable pub fresh_image : List ℕ → List ℕ → List ℕ
fresh_image config o = cond (eqb (fresh_number config o) 0) (scan_image (made_of config).table) o

-- the contract: n is what making a table from config in the buffer o answers, and o then is p
pub record MakesScan (config o p : List ℕ) (n : ℕ) : Type 0 where
  pub number : n ≡ fresh_number config o
  pub image : p ≡ fresh_image config o
  pub holds : n ≡ 0 → HoldsScan p (made_of config).table

-- ---- the engine's own answer (bytes that are no image are no well-formed table), and the image of its own table where
-- the step is accepted; a refusal keeps every byte
unfoldable pub answer_to : List ℕ → List ℕ → Answer
answer_to s call = cond (is_scan s) (scan_of (scan_load s) call).answer no_table

unfoldable pub image_after : List ℕ → List ℕ → List ℕ
image_after s call = cond (eqb (answer_to s call).number 0) (scan_image (scan_of (scan_load s) call).table) s

-- ---- a step: 30 where the answer's buffer is too short, and then no byte of any buffer changes
unfoldable pub step_number : List ℕ → List ℕ → List ℕ → ℕ
step_number s call o = cond (ltb (length o) answer_length) no_room (answer_to s call).number

unfoldable pub step_image : List ℕ → List ℕ → List ℕ → List ℕ
step_image s call o = cond (ltb (length o) answer_length) s (image_after s call)

unfoldable pub step_answer : List ℕ → List ℕ → List ℕ → List ℕ
step_answer s call o = cond (ltb (length o) answer_length) o (written o 0 (answer_bytes (answer_to s call)))

-- the contract: n is what the step of call at the image s answers, the buffer o lent for the answer; s then is p, o
-- is q
pub record StepsScan (s call o p q : List ℕ) (n : ℕ) : Type 0 where
  pub number : n ≡ step_number s call o
  pub image : p ≡ step_image s call o
  pub answer : q ≡ step_answer s call o
  pub holds : n ≡ 0 → HoldsScan p (scan_of (scan_load s) call).table
