-- The mending of a table: refused with 17, nothing to do, or the rounds, the rebuilding and the list.
use Rattle.std.specs.Prelude.{ℕ, ◌≤◌, ◌≡◌, Bool, cond, List, [], length}
use Rattle.executive.specs.declared.Table.{Table}
use Rattle.executive.specs.Numbers.{most_tasks, most_queued, most_sent, most_granule}
use Rattle.executive.specs.Check.{in_bounds, is_well_formed}
use Rattle.mender.specs.declared.Note.{Note}
use Rattle.mender.specs.declared.filled.Filled.{Filled}
use Rattle.mender.specs.declared.Mended.{Mended}
use Rattle.mender.specs.Rules.{own_rules}
use Rattle.mender.specs.Rounds.{rounds_of, enough}
use Rattle.mender.specs.Rebuilding.{rebuilt}
use Rattle.mender.specs.Listing.{noted_of, notes_of}

-- a number, a table and a list
abbrev pub answered_by : ℕ → Table → Filled Note most_tasks → Mended
answered_by n t l = record { number = n; table = t; list = l.places; noted = l.taken }

abbrev pub answered : ℕ → Table → List Note → Mended
answered n t ns = answered_by n t (noted_of ns)

-- its clock, granule and task count are in range
abbrev pub mendable : Table → Bool
mendable t = in_bounds t.rest.count t.rest.granule t.rest.clock 0

-- what the rounds and the rebuilding make of it
abbrev pub mended_table : Table → Table
mended_table t = rebuilt (rounds_of enough t)

abbrev pub notes_at : Table → Table → List Note
notes_at t u = notes_of t.rest.count (own_rules t) t.tasks u.tasks

unfoldable pub mend_of : Table → Mended
mend_of t = cond (mendable t) (cond (is_well_formed t) (answered 0 t []) (answered 0 (mended_table t) (notes_at t (mended_table t)))) (answered 17 t [])

-- what the code's types say of every table, and the promises ask
pub record Typed (t : Table) : Type 0 where
  pub granule : t.rest.granule ≤ most_granule
  pub pool : length t.rest.pool ≡ most_queued
  pub messages : length t.rest.messages ≡ most_sent

-- the contract: the answer, of a table that the types hold
pub record Mends (t : Table) (r : Mended) : Type 0 where
  pub typed : Typed t
  pub answer : r ≡ mend_of t
