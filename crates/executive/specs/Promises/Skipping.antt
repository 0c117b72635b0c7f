-- What a restart that skips the starts it missed promises (02): the next time on its grid, how many were passed
-- over, and nothing elsewhere.
use Rattle.std.specs.Prelude.{ℕ, ◌+◌, ◌*◌, ◌/◌, ◌%◌, ◌≤◌, ◌<◌, ◌≡◌, false, ◌↔◌, ◌≢◌, List, [], ◌∷◌}
use Rattle.records.specs.declared.Call.TheVariants as call
use Rattle.executive.specs.declared.Millis.{Millis}
use Rattle.executive.specs.declared.State.TheVariants.{Ready, Due}
use Rattle.executive.specs.declared.Table.{Table}
use Rattle.executive.specs.declared.Outcome.{Outcome}
use Rattle.executive.specs.Numbers.{last_unit}
use Rattle.executive.specs.Places.{task_at}
use Rattle.executive.specs.Clock.{interval}
use Rattle.executive.specs.Subprograms.{holds_any_of}
use Rattle.executive.specs.Plans.{caller}
use Rattle.executive.specs.WellFormed.{WellFormed}
use Rattle.executive.specs.Refusals.{call_in}
use Rattle.executive.specs.Step.{step_of}
use Rattle.executive.specs.Promises.Demands.{after}
use Rattle.executive.specs.Promises.Cards.{at_time, restart, state, scheduled}
use Rattle.executive.specs.Promises.Cards as cards

-- the grid times are start + m * every, m at least 1. aim is the least of them after now, and k of them are at or
-- before it
pub record NextOnGrid (start now every aim k : ℕ) : Type 0 where
  pub on-grid : aim ≡ start + (k + 1) * every
  pub after : now < aim
  pub least : (m : ℕ) → 1 ≤ m → now < start + m * every → aim ≤ start + m * every
  pub passed : (m : ℕ) → 1 ≤ m → (start + m * every ≤ now) ↔ (m ≤ k)

-- the parameter of a restart that skips, with its count: bit 6 set, bit 7 clear, a unit, a count
pub record Skip (p n : ℕ) : Type 0 where
  pub bits : p / 64 % 4 ≡ 1
  pub unit : p % 8 ≤ last_unit
  pub some : 1 ≤ n

-- after the step the caller is due at the next time on its grid, and the answer tells how many were passed over
pub record DueNext (t : Table) (p n : ℕ) (o : Outcome) : Type 0 where
  pub accepted : o.answer.number ≡ 0
  pub aim : Millis
  pub due : (task_at o.table.tasks (caller t).0).state ≡ Due aim
  pub next : NextOnGrid (task_at t.tasks (caller t).0).start.0 t.rest.clock.0 (interval (p % 8) n).0 aim.0 o.answer.skipped

-- a step that skips: an accepted 01
pub record Skips (t : Table) (s : List ℕ) : Type 0 where
  pub accepted : (step_of t s).answer.number ≡ 0
  pub parameter : ℕ
  pub count : ℕ
  pub restart : call_in s ≡ call.Restart parameter count
  pub skip : Skip parameter count

-- the accident: a task last scheduled at 2 s, every second, whose run ends eight hours later
abbrev pub late : Table
late = at_time 28802000 (after (at_time 2000 (cards.one 250)) (restart 0x80 0 ∷ []))

abbrev pub skipping : Outcome
skipping = step_of late (restart 0x42 1)

abbrev pub catching_up : Outcome
catching_up = step_of late (restart 0x02 1)

pub record Skipping : Type 0 where
  -- of a caller that holds no subprogram (02: one that does is refused, 15)
  pub next : (t : Table) (p n : ℕ) → WellFormed t → 0 < t.ready → holds_any_of (caller t) t.rest.subs ≡ false → p < 256 → n < 256 → Skip p n
      → DueNext t p n (step_of t (0x01 ∷ p ∷ n ∷ []))
  pub only : (start now every a b j k : ℕ) → 0 < every → NextOnGrid start now every a j → NextOnGrid start now every b k → (a ≡ b) × (j ≡ k)
  pub elsewhere : (t : Table) (s : List ℕ) → (step_of t s).answer.skipped ≢ 0 → Skips t s
  pub accident : (scheduled 1 late ≡ 2000) × (state 1 skipping.table ≡ Due (record { 0 = 28803000 })) × (skipping.answer.skipped ≡ 28800)
      × (state 1 catching_up.table ≡ Ready) × (scheduled 1 catching_up.table ≡ 3000) × (catching_up.answer.skipped ≡ 0)
