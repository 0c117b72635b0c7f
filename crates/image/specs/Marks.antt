-- Sets of tasks as bits of a word, as the check of a line in place makes them: who stands in a line, and whose state passes
-- a test.
use Rattle.std.specs.Prelude.{ℕ, suc, ◌≤◌, ◌<◌, ◌^◌, ◌≡◌, Bool, true, false, not, List, eqb, length, get_or}
use Rattle.records.specs.declared.TaskNo.{TaskNo}
use Rattle.executive.specs.declared.Millis.{Millis}
use Rattle.executive.specs.declared.State.{State}
use Rattle.executive.specs.declared.Task.{Task}
use Rattle.executive.specs.Numbers.{highest}
use Rattle.executive.specs.Lists.{one, ◌and◌, up_to}
use Rattle.executive.specs.Places.{never, task_at}
use Rattle.executive.specs.Table.{items, levels_of}
use Rattle.executive.specs.States.{is_of, waits_for}
use Rattle.executive.specs.Flags.{is_set}
use Rattle.executive.specs.Check.{falls, stands_in, exact_at}

-- how often task j + 1 stands in a line; once where its state passes a test, else never
abbrev pub stood : List TaskNo → ℕ → ℕ
stood xs j = stands_in (suc j) xs

abbrev pub passed : (State → Bool) → List Task → ℕ → ℕ
passed f ts j = one (f (task_at ts (suc j)).state)

-- the word w has bit j set where task j + 1 of n tasks counts once, and no other bit; none counts more often
pub record Marked (n w : ℕ) (c : ℕ → ℕ) : Type 0 where
  pub low : w < 2 ^ n
  pub told : (j : ℕ) → j < n → c j ≡ one (is_set w j)

-- these are the sets of those of n tasks who pass each of k tests; who wait for each of the eight subprograms; whose state is
-- of each of the ten kinds
pub record Sets (k n : ℕ) (ws : List ℕ) (f : ℕ → State → Bool) (ts : List Task) : Type 0 where
  pub sized : length ws ≡ k
  pub each : (m : ℕ) → m < k → Marked n (get_or ws m 0) (passed (f m) ts)

abbrev pub Waiting : ℕ → List ℕ → List Task → Type 0
Waiting n ws ts = Sets 8 n ws waits_for ts

abbrev pub Kinds : ℕ → List ℕ → List Task → Type 0
Kinds n ws ts = Sets 10 n ws is_of ts

-- r is the first member of the set w from a number on; 32 where there is none
pub record Next (w from r : ℕ) : Type 0 where
  pub least : from ≤ r
  pub most : r ≤ 32
  pub skipped : (j : ℕ) → from ≤ j → j < r → is_set w j ≡ false
  pub member : r < 32 → is_set w r ≡ true

-- the word w has bit j set where alarm j is running
pub record Running (w : ℕ) (alarms : List Millis) : Type 0 where
  pub told : (j : ℕ) → j < 32 → is_set w j ≡ not (eqb (get_or alarms j never).0 0)

-- a walk over a line finds it right: it descends, nobody stands there twice, and it has these marks and this word of levels;
-- or not right: whatever test its tasks are to pass, it is no line of those
pub record Walks (ts : List Task) (n : ℕ) (xs : List TaskNo) (right : Bool) (seen word : ℕ) : Type 0 where
  pub good : right ≡ true → (falls ts n highest xs ≡ true) × Marked n seen (stood xs) × (word ≡ levels_of (items ts xs))
  pub bad : right ≡ false → (f : State → Bool) → (falls ts n highest xs and up_to (exact_at f ts xs) n) ≡ false
