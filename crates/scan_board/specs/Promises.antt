-- What is promised of the second engine's image and of its entry points' definitions, a field for each theorem.
use Rattle.std.specs.Prelude.{ℕ, ◌≤◌, ◌<◌, ◌≡◌, true, List, length}
use Rattle.records.specs.Numbers.{Bytes}
use Rattle.scan.specs.declared.Scanned.{Scanned}
use Rattle.scan.specs.Queued.{queued}
use Rattle.image.specs.Image.{image_length}
use Rattle.image.specs.EntryPoints.{Holds, MakesImage, answer_length, StepsImage}
use Rattle.scan_board.specs.Image.{scan_length, scan_image, scan_load, is_scan, FitsScan}
use Rattle.scan_board.specs.EntryPoints.{SoundImage, CheckedScan, fresh_number, fresh_image, MakesScan, step_number, step_image, step_answer, StepsScan}

pub record Promises : Type 0 where
  -- storing a table and loading it gives the same table
  pub load_store : (e : Scanned) → FitsScan e → scan_load (scan_image e) ≡ e
  -- loading an image and storing it gives the same bytes
  pub store_load : (s : List ℕ) → is_scan s ≡ true → scan_image (scan_load s) ≡ s
  -- what is stored is an image
  pub stored : (e : Scanned) → FitsScan e → is_scan (scan_image e) ≡ true
  -- an image has its length
  pub sized : (s : List ℕ) → is_scan s ≡ true → length s ≡ scan_length
  -- a refused step changes no byte of the image
  pub refused : (s k o : List ℕ) → (step_number s k o ≡ 0 → ⊥) → step_image s k o ≡ s
  -- an answer's buffer that is too short is kept, and so is the image
  pub short : (s k o : List ℕ) → length o < answer_length → (step_image s k o ≡ s) × (step_answer s k o ≡ o)
  -- a configuration that is refused changes no byte
  pub not_made : (g o : List ℕ) → (fresh_number g o ≡ 0 → ⊥) → fresh_image g o ≡ o
  -- a fresh image, and a step from the image of a well-formed table, leave the image of a well-formed table
  pub fresh_kept : (g o p : List ℕ) → Bytes g → MakesScan g o p 0 → SoundImage p
  pub step_kept : (s k o p q : List ℕ) (n : ℕ) → Bytes k → SoundImage s → StepsScan s k o p q n → SoundImage p
  -- both engines, byte for byte: the same bytes make the same number, and with 0 the image of a table and the first
  -- engine's of the table that it stands for; from two such images a step gives the same number and the same answer, and
  -- leaves two such
  pub fresh-equal : (g o r p q : List ℕ) (n m : ℕ) → Bytes g → length o ≡ scan_length → length r ≡ image_length
      → MakesScan g o p n → MakesImage g r q m → (n ≡ m) × (n ≡ 0 → Holds q (queued (scan_load p)))
  pub step-equal : (s t k o p q u v : List ℕ) (n m : ℕ) → Bytes k → answer_length ≤ length o → SoundImage s → Holds t (queued (scan_load s))
      → StepsScan s k o p u n → StepsImage t k o q v m → (n ≡ m) × (u ≡ v) × Holds q (queued (scan_load p))
  -- any two outcomes that a public function's contract allows are equal: the answer, and every byte of each buffer
  pub fresh-determined : (g o p q : List ℕ) (x y : ℕ) → MakesScan g o p x → MakesScan g o q y → (p ≡ q) × (x ≡ y)
  pub check_determined : (s : List ℕ) (x y : ℕ) → CheckedScan s x → CheckedScan s y → x ≡ y
  pub step-determined : (s k o p q u v : List ℕ) (x y : ℕ) → StepsScan s k o p u x → StepsScan s k o q v y
      → (p ≡ q) × (u ≡ v) × (x ≡ y)
