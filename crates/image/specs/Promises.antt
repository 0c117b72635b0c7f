-- What is promised of the image and of the entry points' definitions, a field for each theorem.
use Rattle.std.specs.Prelude.{ℕ, ◌≤◌, ◌<◌, ◌≡◌, true, List, length, get_or}
use Rattle.records.specs.Numbers.{Bytes}
use Rattle.executive.specs.declared.Table.{Table}
use Rattle.executive.specs.Promises.Demands.{AllBytes, IsReady, Dispatched, NotYet}
use Rattle.image.specs.Image.{image_length, image_of, Stores, load_of, Loads, ComesBack, is_image, FitsTable}
use Rattle.image.specs.EntryPoints.{WellFormedImage, CheckedImage, answer_length, active_at, fresh_number, fresh_image, MakesImage, step_number}
use Rattle.image.specs.EntryPoints.{step_image, step_answer, StepsImage, ReadsLamp, ShowsImage, Runs, OvertakingImage}

pub record Promises : Type 0 where
  -- storing a table and loading it gives the same table
  pub load_store : (t : Table) → FitsTable t → load_of (image_of t) ≡ t
  -- loading an image and storing it gives the same bytes
  pub store_load : (s : List ℕ) → is_image s ≡ true → image_of (load_of s) ≡ s
  -- what is stored is an image
  pub stored : (t : Table) → FitsTable t → is_image (image_of t) ≡ true
  -- an image has its length
  pub sized : (s : List ℕ) → is_image s ≡ true → length s ≡ image_length
  -- what any bytes load to fits, so every image is the image of a table that fits
  pub load_fits : (s : List ℕ) → Bytes s → FitsTable (load_of s)
  -- a refused step changes no byte of the image
  pub refused : (s k o : List ℕ) → (step_number s k o ≡ 0 → ⊥) → step_image s k o ≡ s
  -- an answer's buffer that is too short is kept, and so is the image
  pub short : (s k o : List ℕ) → length o < answer_length → (step_image s k o ≡ s) × (step_answer s k o ≡ o)
  -- a configuration that is refused changes no byte
  pub not_made : (g o : List ℕ) → (fresh_number g o ≡ 0 → ⊥) → fresh_image g o ≡ o
  -- a fresh image, and a step from the image of a well-formed table, leave the image of a well-formed table
  pub fresh_kept : (g o p : List ℕ) → Bytes g → MakesImage g o p 0 → WellFormedImage p
  pub step_kept : (s k o p q : List ℕ) (n : ℕ) → Bytes k → WellFormedImage s → StepsImage s k o p q n
      → WellFormedImage p
  -- the answer's active byte is the first of those with highest priority, and 0 exactly if none is ready
  pub active : (s k o p q : List ℕ) (n : ℕ) → Bytes k → WellFormedImage s → StepsImage s k o p q n
      → answer_length ≤ length o → Dispatched (load_of p) (get_or q active_at 0)
  -- the lamp of the image of a well-formed table shows its active task's priority, and 16 exactly when idle
  pub lamp : (s : List ℕ) → WellFormedImage s → ShowsImage s (load_of s)
  -- demand 3 over a history of images
  pub overtaking : (s : List ℕ) (k : ℕ) (ks : List (List ℕ)) (p : List ℕ) → AllBytes ks → WellFormedImage s
      → Runs s ks p → IsReady (load_of s) k → NotYet k (load_of s) ks → OvertakingImage s k ks p
  -- any two outcomes that a public function's contract allows are equal: the answer, and every byte of each buffer
  pub fresh-determined : (g o p q : List ℕ) (x y : ℕ) → MakesImage g o p x → MakesImage g o q y → (p ≡ q) × (x ≡ y)
  pub check_determined : (s : List ℕ) (x y : ℕ) → CheckedImage s x → CheckedImage s y → x ≡ y
  pub step-determined : (s k o p q u v : List ℕ) (x y : ℕ) → StepsImage s k o p u x → StepsImage s k o q v y
      → (p ≡ q) × (u ≡ v) × (x ≡ y)
  pub lamp-determined : (s : List ℕ) (x y : ℕ) → ReadsLamp s x → ReadsLamp s y → x ≡ y
  pub load_determined : (s : List ℕ) (x y : Table) → Loads s x → Loads s y → x ≡ y
  pub store_determined : (t : Table) (o p q : List ℕ) (x y : ℕ) → Stores t o p x → Stores t o q y → (p ≡ q) × (x ≡ y)
  pub trip_determined : (t x y : Table) → ComesBack t x → ComesBack t y → x ≡ y
