-- The fresh table of a configuration in the second engine: the marked tasks are ready, with arrival numbers 1, 2 and on
-- in ascending task number.
use Rattle.std.specs.Prelude.{ℕ, suc, ◌≡◌, cond, List, [], ◌∷◌}
use Rattle.executive.specs.declared.Task.{Task}
use Rattle.executive.specs.declared.Table.{Table}
use Rattle.executive.specs.States.{ready, is_of}
use Rattle.executive.specs.Configuration.{fresh_of}
use Rattle.scan.specs.declared.Entry.{Entry}
use Rattle.scan.specs.declared.Scanned.{Scanned}
use Rattle.scan.specs.declared.Made.{Made}
use Rattle.scan.specs.Entries.{entry, count_of, is_ready}

-- the ready ones of some tasks get the numbers after n, in their order; all others none
unfoldable pub numbered_from : ℕ → List Task → List Entry
numbered_from n [] = []
numbered_from n (e ∷ es) = cond (is_of ready e.state) (entry e (suc n) ∷ numbered_from (suc n) es) (entry e 0 ∷ numbered_from n es)

abbrev pub numbered : Table → Scanned
numbered t = record { entries = numbered_from 0 t.tasks; last = count_of is_ready (numbered_from 0 t.tasks); rest = t.rest }

-- number 0 and the table, or number 2 and the all-zero table
unfoldable pub made_of : List ℕ → Made
made_of s = record { number = (fresh_of s).answer.number; table = numbered (fresh_of s).table }

abbrev pub Makes : List ℕ → Made → Type 0
Makes s m = m ≡ made_of s
