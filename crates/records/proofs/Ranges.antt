-- A call that is read from bytes has its numbers below the bounds of their widths.
use Prim.Native.Nat.{ℕ}
use mathlib.Core.List.{List}
use lib.Dec.{lit<}
use Rattle.records.specs.Numbers.{Bytes, cut}
use Rattle.records.specs.Kinds.{body_of}
use Rattle.records.specs.Calls.{got_of, GotInRange}
use Rattle.records.specs.Reading.{first_kind, read_of}
use Rattle.records.specs.declared.Kind.{Kind}
use Rattle.records.specs.declared.Kind.TheVariants as kind
use Rattle.records.proofs.Numbers.{cut_fits}
use Rattle.records.proofs.reading.Laws.{read-cases}

-- what a reader makes of a kind's body
read_as_in_range : (s : List ℕ) → Bytes s → (k : Kind) → GotInRange (got_of k (cut (body_of k) 1 s))
read_as_in_range s h kind.Unknown = lit< tt
read_as_in_range s h kind.Terminate = cut_fits s h (body_of kind.Terminate) 1
read_as_in_range s h kind.Restart = cut_fits s h (body_of kind.Restart) 1
read_as_in_range s h kind.Pause = cut_fits s h (body_of kind.Pause) 1
read_as_in_range s h kind.CancelPause = cut_fits s h (body_of kind.CancelPause) 1
read_as_in_range s h kind.StartIfDormant = cut_fits s h (body_of kind.StartIfDormant) 1
read_as_in_range s h kind.StartOrQueue = cut_fits s h (body_of kind.StartOrQueue) 1
read_as_in_range s h kind.Flag = cut_fits s h (body_of kind.Flag) 1
read_as_in_range s h kind.Wait = cut_fits s h (body_of kind.Wait) 1
read_as_in_range s h kind.Alarm = cut_fits s h (body_of kind.Alarm) 1
read_as_in_range s h kind.Tick = cut_fits s h (body_of kind.Tick) 1
read_as_in_range s h kind.Granule = cut_fits s h (body_of kind.Granule) 1
read_as_in_range s h kind.Task = cut_fits s h (body_of kind.Task) 1
read_as_in_range s h kind.End = cut_fits s h (body_of kind.End) 1
read_as_in_range s h kind.Enter = cut_fits s h (body_of kind.Enter) 1
read_as_in_range s h kind.Exit = cut_fits s h (body_of kind.Exit) 1
read_as_in_range s h kind.Send = cut_fits s h (body_of kind.Send) 1
read_as_in_range s h kind.Receive = cut_fits s h (body_of kind.Receive) 1

-- a call that is read from bytes is in range
pub read_in_range : (s : List ℕ) → Bytes s → GotInRange (read_of s)
read_in_range s h =
    read-cases {P = GotInRange (read_of s)} s
    (λ _ e. rw e (lit< tt))
    (λ _ _ e. rw e (lit< tt))
    (λ _ _ e. rw e (lit< tt))
    (λ _ _ _ e _. rw e (read_as_in_range s h (first_kind s)))
