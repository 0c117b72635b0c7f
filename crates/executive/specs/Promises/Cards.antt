-- The bench cards P1 to P12 (01, "Bench cards"), as one list under one statement; each is shown of `step_of` on records,
-- with 01's sentence above it.
use Rattle.std.specs.Prelude.{ℕ, ◌-◌, ◌^◌, ◌≡◌, true, false, List, [], ◌∷◌, replicate}
use Rattle.records.specs.declared.TaskNo.{TaskNo}
use Rattle.executive.specs.declared.Mode.TheVariants.{All}
use Rattle.executive.specs.declared.State.{State}
use Rattle.executive.specs.declared.State.TheVariants.{Due, Flags}
use Rattle.executive.specs.declared.Table.{Table}
use Rattle.executive.specs.declared.Answer.{Answer}
use Rattle.executive.specs.declared.Outcome.{Outcome}
use Rattle.executive.specs.Numbers.{longest}
use Rattle.executive.specs.Table.{line, with_rest}
use Rattle.executive.specs.Places.{task_at}
use Rattle.executive.specs.Clock.{with_clock, interval}
use Rattle.executive.specs.Plans.{caller, state_at}
use Rattle.executive.specs.WellFormed.{WellFormed}
use Rattle.executive.specs.Step.{step_of}
use Rattle.executive.specs.Configuration.{fresh_of}
use Rattle.executive.specs.Promises.Demands.{after}
use Rattle.executive.specs.Promises.Worked.{along}

-- ---- the tables of the cards: each is a fresh one, after some records, or at another time
-- one task; two tasks; both started, at priority 7
abbrev pub one : ℕ → Table
one granule = (fresh_of (0x40 ∷ granule ∷ 0x41 ∷ 7 ∷ 1 ∷ 0x42 ∷ [])).table

abbrev pub two : ℕ → Table
two granule = (fresh_of (0x40 ∷ granule ∷ 0x41 ∷ 7 ∷ 1 ∷ 0x41 ∷ 7 ∷ 1 ∷ 0x42 ∷ [])).table

-- one task, not started
abbrev pub idle : Table
idle = (fresh_of (0x40 ∷ 1 ∷ 0x41 ∷ 7 ∷ 0 ∷ 0x42 ∷ [])).table

-- the same table when the clock has come to a time
abbrev pub at_time : ℕ → Table → Table
at_time ms t = with_rest (with_clock (record { 0 = ms }) t.rest) t

-- ---- what the cards ask of a table
abbrev pub task : ℕ → TaskNo
task k = record { 0 = k }

abbrev pub state : ℕ → Table → State
state k t = state_at t (task k)

abbrev pub scheduled : ℕ → Table → ℕ
scheduled k t = (task_at t.tasks k).start.0

abbrev pub queued : Table → ℕ
queued t = t.rest.queued

-- each of them is well formed
abbrev pub AllFormed : List Table → Type 0
AllFormed [] = Unit {0}
AllFormed (t ∷ ts) = WellFormed t × AllFormed ts

-- ---- the records: 00; 01; 02 of so many ms; 04; 05; 09 that resets or sets a flag; 0A for all of a mask below 256; 80
abbrev pub terminate : List ℕ
terminate = 0x00 ∷ []

abbrev pub restart : ℕ → ℕ → List ℕ
restart parameter count = 0x01 ∷ parameter ∷ count ∷ []

abbrev pub pause : ℕ → List ℕ
pause ms = 0x02 ∷ 0 ∷ ms ∷ []

abbrev pub start : ℕ → ℕ → List ℕ
start option k = 0x04 ∷ option ∷ k ∷ []

abbrev pub ask : ℕ → ℕ → List ℕ
ask option k = 0x05 ∷ option ∷ k ∷ 0 ∷ 0 ∷ []

abbrev pub reset : ℕ → List ℕ
reset f = 0x09 ∷ 0 ∷ f ∷ []

abbrev pub set : ℕ → List ℕ
set f = 0x09 ∷ 1 ∷ f ∷ []

abbrev pub wait_all : ℕ → List ℕ
wait_all mask = 0x0A ∷ 1 ∷ 0 ∷ 0 ∷ 0 ∷ mask ∷ []

abbrev pub tick : List ℕ
tick = 0x80 ∷ []

-- "every 5 minutes"
abbrev pub every_five : List ℕ
every_five = restart 3 5

-- ---- what the cards ask for: the answer to a record, the numbers of the answers to some
abbrev pub answer : Table → List ℕ → Answer
answer t s = (step_of t s).answer

abbrev pub numbers : Table → List (List ℕ) → List ℕ
numbers t ss = along (λ (o : Outcome). o.answer.number) t ss

-- P4 and P5: the run of task 1 ended at a time by "every 5 minutes"; the run that follows one ended at 420,000
abbrev pub ended : ℕ → Table → Table
ended ms t = after (at_time ms t) (every_five ∷ [])

abbrev pub again : Table
again = ended 420000 (one 10)

-- P7: task 1 waits for all of mask 3; then task 2 sets and resets flags
abbrev pub blinking : List (List ℕ)
blinking = wait_all 3 ∷ set 0 ∷ reset 0 ∷ set 1 ∷ []

-- P8: the active task asks 32 times for itself
abbrev pub asking : List (List ℕ)
asking = replicate 32 (ask 0x80 1)

abbrev pub full : Table
full = after (one 10) asking

pub record Cards : Type 0 where
  -- the cards' tables are well formed
  pub formed : AllFormed (one 1 ∷ one 10 ∷ two 10 ∷ two 100 ∷ idle ∷ again ∷ full ∷ [])
  pub formed-later : AllFormed (at_time 420000 (one 10) ∷ at_time 540000 again ∷ at_time 600000 again ∷ [])
  pub formed-last : AllFormed (at_time (2 ^ 40 - 1) (one 1) ∷ at_time (2 ^ 40) (one 1) ∷ [])
  -- Tasks 1 and 2 start at priority 7 in that order: 1 is active.
  pub p1 : (line (two 10) ≡ task 1 ∷ task 2 ∷ []) × (caller (two 10) ≡ task 1)
  -- Granule 100: pauses of 1 and of 99 ms both end at the next tick.
  pub p2 : (numbers (two 100) (pause 1 ∷ pause 99 ∷ tick ∷ []) ≡ 0 ∷ 0 ∷ 0 ∷ [])
      × (line (after (two 100) (pause 1 ∷ pause 99 ∷ [])) ≡ [])
      × (line (after (two 100) (pause 1 ∷ pause 99 ∷ tick ∷ [])) ≡ task 1 ∷ task 2 ∷ [])
  -- 30 seconds is 30,000 ms; 255 hours is 918,000,000 ms. 30 days are 2,592,000,000 ms; 255 days, the largest
  -- interval, 22,032,000,000 ms (02).
  pub p3 : ((interval 2 30).0 ≡ 30000) × ((interval 4 255).0 ≡ 918000000)
      × ((interval 5 30).0 ≡ 2592000000) × ((interval 5 255).0 ≡ 22032000000) × (longest ≡ 22032000000)
  -- Scheduled start 0, every 5 minutes, ended at 420,000: enters at once, scheduled start 300,000.
  pub p4 : (scheduled 1 (one 10) ≡ 0) × ((answer (at_time 420000 (one 10)) every_five).number ≡ 0)
      × (line (ended 420000 (one 10)) ≡ task 1 ∷ []) × (scheduled 1 (ended 420000 (one 10)) ≡ 300000)
  -- That run ended at 540,000: due at 600,000. Ended at exactly 600,000: enters at once.
  pub p5 : (state 1 (ended 540000 again) ≡ Due (record { 0 = 600000 })) × (line (ended 540000 again) ≡ [])
      × (line (ended 600000 again) ≡ task 1 ∷ []) × (scheduled 1 (ended 600000 again) ≡ 600000)
  -- Kind 01 with unit 6: answer 0, V 1. With unit 5, a day: answer 0, V 0 (02).
  pub p6 : ((answer (one 10) (restart 6 1)).number ≡ 0) × ((answer (one 10) (restart 6 1)).v ≡ true)
      × ((answer (one 10) (restart 5 1)).number ≡ 0) × ((answer (one 10) (restart 5 1)).v ≡ false)
  -- Waiting for all of mask 3; flag 0 set, flag 0 reset, flag 1 set: still waiting.
  pub p7 : (numbers (two 10) blinking ≡ 0 ∷ 0 ∷ 0 ∷ 0 ∷ [])
      × ((after (two 10) blinking).rest.flags ≡ 2) × (state 1 (after (two 10) blinking) ≡ Flags All 3)
  -- 32 queued, one more for a busy task: 8. One begins, ask again: 0.
  pub p8 : (queued full ≡ 32) × ((answer full (ask 0x80 1)).number ≡ 8) × (queued (after full (terminate ∷ [])) ≡ 31)
      × ((answer (after full (terminate ∷ [])) (ask 0x80 1)).number ≡ 0)
  -- Kind 04 at a busy task: Z, nothing queued.
  pub p9 : ((answer (two 10) (start 0x80 2)).number ≡ 0) × ((answer (two 10) (start 0x80 2)).z ≡ true)
      × ((step_of (two 10) (start 0x80 2)).table ≡ two 10) × (queued (two 10) ≡ 0)
  -- Kind 05 at oneself: bit 5 gives 7; bits 6 and 5 clear queues.
  pub p10 : ((answer (one 10) (ask 0x20 1)).number ≡ 7) × ((answer (one 10) (ask 0x00 1)).number ≡ 0)
      × (queued (after (one 10) (ask 0x00 1 ∷ [])) ≡ 1)
  -- Granule 1: a tick at 2^40 - 1 is accepted, at 2^40 gives 10.
  pub p11 : ((answer (at_time (2 ^ 40 - 1) (one 1)) tick).number ≡ 0)
      × ((after (at_time (2 ^ 40 - 1) (one 1)) (tick ∷ [])).rest.clock.0 ≡ 2 ^ 40)
      × ((answer (at_time (2 ^ 40) (one 1)) tick).number ≡ 10)
  -- Idle: kind 00 gives 5.
  pub p12 : ((caller idle).0 ≡ 0) × ((answer idle terminate).number ≡ 5)
