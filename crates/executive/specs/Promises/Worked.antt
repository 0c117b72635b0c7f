-- Demand 3 worked out on one history: a waiting task is overtaken by higher ones and then becomes active. So what
-- is shown of all histories is not empty.
use Rattle.std.specs.Prelude.{◌≡◌, true, List, [], ◌∷◌, ℕ}
use Rattle.executive.specs.declared.Table.{Table}
use Rattle.executive.specs.declared.Outcome.{Outcome}
use Rattle.executive.specs.Queue.{count, ahead, prio_in, active_of, departures, entries_above}
use Rattle.executive.specs.Table.{view}
use Rattle.executive.specs.Check.{is_well_formed}
use Rattle.executive.specs.Step.{step_of}
use Rattle.executive.specs.Configuration.{fresh_of}
use Rattle.executive.specs.Promises.Demands.{history}

-- granule 10; tasks 1 and 2 at priority 5 are started, task 3 at priority 7 is not
abbrev pub configuration : List ℕ
configuration = 0x40 ∷ 0x0A ∷ 0x41 ∷ 5 ∷ 1 ∷ 0x41 ∷ 5 ∷ 1 ∷ 0x41 ∷ 7 ∷ 0 ∷ 0x42 ∷ []

abbrev pub table : Table
table = (fresh_of configuration).table

-- 1 starts 3; 3 pauses for 15 ms; two ticks, and 3 is back; 3 asks for a pause in unit 6, which is refused; 3
-- terminates; 1 terminates
abbrev pub records : List (List ℕ)
records =
    (0x04 ∷ 0x80 ∷ 3 ∷ [])
    ∷ (0x02 ∷ 0 ∷ 15 ∷ [])
    ∷ (0x80 ∷ [])
    ∷ (0x80 ∷ [])
    ∷ (0x02 ∷ 6 ∷ 1 ∷ [])
    ∷ (0x00 ∷ [])
    ∷ (0x00 ∷ [])
    ∷ []

-- what is read of each outcome on the way
unfoldable pub along : (Outcome → ℕ) → Table → List (List ℕ) → List ℕ
along f t [] = []
along f t (s ∷ ss) = f (step_of t s) ∷ along f (step_of t s).table ss

-- task 2 waits at priority 5 behind task 1. Two enter above it and three depart: 0 + 3 = 1 + 2
pub record Worked : Type 0 where
  pub started : (fresh_of configuration).answer.number ≡ 0
  pub well_formed : is_well_formed table ≡ true
  pub ready : count 2 (view table) ≡ 1
  pub priority : prio_in 2 (view table) ≡ 5
  pub behind : ahead 2 (view table) ≡ 1
  pub active : active_of (view table) ≡ 1
  pub numbers : along (λ (o : Outcome). o.answer.number) table records ≡ 0 ∷ 0 ∷ 0 ∷ 0 ∷ 6 ∷ 0 ∷ 0 ∷ []
  pub actives : along (λ (o : Outcome). o.answer.active.0) table records ≡ 3 ∷ 1 ∷ 1 ∷ 3 ∷ 3 ∷ 1 ∷ 2 ∷ []
  pub aheads : along (λ (o : Outcome). ahead 2 (view o.table)) table records ≡ 2 ∷ 1 ∷ 1 ∷ 2 ∷ 2 ∷ 1 ∷ 0 ∷ []
  pub entered : entries_above 5 (history table records) ≡ 2
  pub departed : departures (history table records) ≡ 3
