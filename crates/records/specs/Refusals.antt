-- The numbers of the refusals, and what reading and writing answer.
use Rattle.std.specs.Prelude.{ℕ, cond, eqb, Result, Ok, Err}
use Rattle.records.specs.declared.Refusal.{Refusal}
use Rattle.records.specs.declared.Refusal.TheVariants as refusal
use Rattle.records.specs.declared.Call.{Call}

-- the number of each (docs/CALLS.md, 6; docs/BLOCKS.md)
abbrev pub refusal_number : Refusal → ℕ
refusal_number refusal.NoTable = 1
refusal_number refusal.NoConfiguration = 2
refusal_number refusal.WrongLength = 3
refusal_number refusal.UnknownKind = 4
refusal_number refusal.NobodyActive = 5
refusal_number refusal.OutOfRange = 6
refusal_number refusal.NamesCaller = 7
refusal_number refusal.QueueFull = 8
refusal_number refusal.AlarmRunning = 9
refusal_number refusal.EndOfTime = 10
refusal_number refusal.HeldAlready = 13
refusal_number refusal.NotHeld = 14
refusal_number refusal.StillHeld = 15
refusal_number refusal.MessagesFull = 16
refusal_number refusal.Unmendable = 17
refusal_number refusal.OutsideImage = 18
refusal_number refusal.NotListed = 19
refusal_number refusal.BufferShort = 20
refusal_number refusal.ReadOtherwise = 21

-- the refusal of a number; of one that is no refusal's, the last
abbrev pub refusal_for : ℕ → Refusal
refusal_for n =
    cond (eqb n 1) refusal.NoTable (cond (eqb n 2) refusal.NoConfiguration
    (cond (eqb n 3) refusal.WrongLength (cond (eqb n 4) refusal.UnknownKind
    (cond (eqb n 5) refusal.NobodyActive (cond (eqb n 6) refusal.OutOfRange
    (cond (eqb n 7) refusal.NamesCaller (cond (eqb n 8) refusal.QueueFull
    (cond (eqb n 9) refusal.AlarmRunning (cond (eqb n 10) refusal.EndOfTime
    (cond (eqb n 13) refusal.HeldAlready (cond (eqb n 14) refusal.NotHeld
    (cond (eqb n 15) refusal.StillHeld (cond (eqb n 16) refusal.MessagesFull
    (cond (eqb n 17) refusal.Unmendable (cond (eqb n 18) refusal.OutsideImage
    (cond (eqb n 19) refusal.NotListed (cond (eqb n 20) refusal.BufferShort
    refusal.ReadOtherwise)))))))))))))))))

-- the number that an answer carries: 0 where nothing was refused
abbrev pub number_in : {A : Type 0} → Result A Refusal → ℕ
number_in (Ok x) = 0
number_in (Err r) = refusal_number r

-- what a reader answers, a call or why there is none; what a writer answers, a length or why nothing was written
abbrev pub Got : Type 0
Got = Result Call Refusal

abbrev pub Written : Type 0
Written = Result ℕ Refusal
