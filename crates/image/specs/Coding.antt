-- What the code writes on its way to the image, parts of a block, and what it holds an entry's numbers to.
use Rattle.std.specs.Prelude.{ℕ, Bool, false, cond, List, [], ◌∷◌, eqb}
use Rattle.records.specs.Numbers.{lay}
use Rattle.executive.specs.declared.Millis.{Millis}
use Rattle.executive.specs.declared.State.{State}
use Rattle.executive.specs.declared.Task.{Task}
use Rattle.executive.specs.declared.Rest.{Rest}
use Rattle.executive.specs.States.{state_kind, time_of, mask_of, awaited_of}
use Rattle.image.specs.Image.{head_widths, state_in}

abbrev pub front_bytes : ℕ → State → List ℕ
front_bytes own s = lay (1 ∷ 1 ∷ 8 ∷ 4 ∷ []) (own ∷ state_kind s ∷ (time_of s).0 ∷ mask_of s ∷ [])

abbrev pub run_bytes : Task → List ℕ
run_bytes e = lay (1 ∷ 2 ∷ 8 ∷ 1 ∷ []) (e.priority ∷ e.argument ∷ e.start.0 ∷ e.end_waiter.0 ∷ [])

abbrev pub head_of : ℕ → Rest → List ℕ
head_of ready r = lay head_widths (ready ∷ r.count ∷ r.granule ∷ r.queued ∷ r.clock.0 ∷ r.flags ∷ [])

-- whether four numbers are those of a state; whether they are those of the state that they make
unfoldable pub are_of : State → ℕ → ℕ → ℕ → ℕ → Bool
are_of x kind time mask number =
    cond (eqb (state_kind x) kind) (cond (eqb (time_of x).0 time) (cond (eqb (mask_of x) mask) (eqb (awaited_of x) number) false) false) false

abbrev pub is_code : ℕ → Millis → ℕ → ℕ → Bool
is_code kind time mask number = are_of (state_in kind time mask number) kind time.0 mask number
