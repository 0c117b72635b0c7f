-- A step on the lent bytes of an image that hands its answer out as a value, and the image of a table as a value: what
-- those rest on who are no C program.
use Rattle.std.specs.Prelude.{ℕ, ◌≡◌, List}
use Rattle.executive.specs.declared.Answer.{Answer}
use Rattle.executive.specs.declared.Table.{Table}
use Rattle.executive.specs.Step.{step_of}
use Rattle.image.specs.Image.{image_of, load_of}
use Rattle.image.specs.EntryPoints.{Holds, answer_to, image_after}

-- the contract: a is what the step of call at the bytes s answers, and s then is p
pub record Acts (s call p : List ℕ) (a : Answer) : Type 0 where
  pub answer : a ≡ answer_to s call
  pub image : p ≡ image_after s call
  pub holds : a.number ≡ 0 → Holds p (step_of (load_of s) call).table

-- the contract: s is the image of the table t, and loads to it
pub record Images (t : Table) (s : List ℕ) : Type 0 where
  pub image : s ≡ image_of t
  pub holds : Holds s t

-- ---- what is promised
pub record ActingPromises : Type 0 where
  -- at the image of any table the answer is that table's own, and the image is then that of the table after the step
  pub acted : (s call p : List ℕ) (a : Answer) (t : Table) → Acts s call p a → Holds s t
      → (a ≡ (step_of t call).answer) × Holds p (step_of t call).table
  -- any two outcomes that a contract allows are equal
  pub act_determined : (s call p q : List ℕ) (a b : Answer) → Acts s call p a → Acts s call q b → (p ≡ q) × (a ≡ b)
  pub image-determined : (t : Table) (p q : List ℕ) → Images t p → Images t q → p ≡ q
