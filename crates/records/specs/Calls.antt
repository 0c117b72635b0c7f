-- A call as its kind and the numbers of its body.
use Rattle.std.specs.Prelude.{ℕ, ◌<◌, List, [], ◌∷◌, get_or, Ok, Err}
use Rattle.records.specs.Numbers.{Fits}
use Rattle.records.specs.Kinds.{body_of}
use Rattle.records.specs.declared.Kind.{Kind}
use Rattle.records.specs.declared.Kind.TheVariants as kind
use Rattle.records.specs.declared.Call.{Call}
use Rattle.records.specs.declared.Call.TheVariants as call
use Rattle.records.specs.Refusals.{refusal_number, Got}
use Rattle.records.specs.declared.Refusal.TheVariants as refusal

-- the kind of a call
abbrev pub kind_of_call : Call → Kind
kind_of_call call.Terminate = kind.Terminate
kind_of_call (call.Restart p n) = kind.Restart
kind_of_call (call.Pause u n) = kind.Pause
kind_of_call (call.CancelPause t) = kind.CancelPause
kind_of_call (call.StartIfDormant o t) = kind.StartIfDormant
kind_of_call (call.StartOrQueue o t a) = kind.StartOrQueue
kind_of_call (call.Flag o f) = kind.Flag
kind_of_call (call.Wait m x) = kind.Wait
kind_of_call (call.Alarm u n f) = kind.Alarm
kind_of_call call.Tick = kind.Tick
kind_of_call (call.Granule g) = kind.Granule
kind_of_call (call.Task p m) = kind.Task
kind_of_call call.End = kind.End
kind_of_call (call.Enter m) = kind.Enter
kind_of_call (call.Exit m) = kind.Exit
kind_of_call (call.Send t x) = kind.Send
kind_of_call (call.Receive t) = kind.Receive

-- the numbers of a call's body, in the order of its row
abbrev pub fields_of : Call → List ℕ
fields_of call.Terminate = []
fields_of (call.Restart p n) = p ∷ n ∷ []
fields_of (call.Pause u n) = u ∷ n ∷ []
fields_of (call.CancelPause t) = t.0 ∷ []
fields_of (call.StartIfDormant o t) = o ∷ t.0 ∷ []
fields_of (call.StartOrQueue o t a) = o ∷ t.0 ∷ a ∷ []
fields_of (call.Flag o f) = o ∷ f.0 ∷ []
fields_of (call.Wait m x) = m ∷ x ∷ []
fields_of (call.Alarm u n f) = u ∷ n ∷ f.0 ∷ []
fields_of call.Tick = []
fields_of (call.Granule g) = g ∷ []
fields_of (call.Task p m) = p ∷ m ∷ []
fields_of call.End = []
fields_of (call.Enter m) = m.0 ∷ []
fields_of (call.Exit m) = m.0 ∷ []
fields_of (call.Send t x) = t.0 ∷ x.0 ∷ []
fields_of (call.Receive t) = t.0 ∷ []

-- the call of a kind with these numbers; Unknown has none
abbrev pub got_of : Kind → List ℕ → Got
got_of kind.Unknown xs = Err refusal.UnknownKind
got_of kind.Terminate xs = Ok call.Terminate
got_of kind.Restart xs = Ok (call.Restart (get_or xs 0 0) (get_or xs 1 0))
got_of kind.Pause xs = Ok (call.Pause (get_or xs 0 0) (get_or xs 1 0))
got_of kind.CancelPause xs = Ok (call.CancelPause (record { 0 = get_or xs 0 0 }))
got_of kind.StartIfDormant xs = Ok (call.StartIfDormant (get_or xs 0 0) (record { 0 = get_or xs 1 0 }))
got_of kind.StartOrQueue xs = Ok (call.StartOrQueue (get_or xs 0 0) (record { 0 = get_or xs 1 0 }) (get_or xs 2 0))
got_of kind.Flag xs = Ok (call.Flag (get_or xs 0 0) (record { 0 = get_or xs 1 0 }))
got_of kind.Wait xs = Ok (call.Wait (get_or xs 0 0) (get_or xs 1 0))
got_of kind.Alarm xs = Ok (call.Alarm (get_or xs 0 0) (get_or xs 1 0) (record { 0 = get_or xs 2 0 }))
got_of kind.Tick xs = Ok call.Tick
got_of kind.Granule xs = Ok (call.Granule (get_or xs 0 0))
got_of kind.Task xs = Ok (call.Task (get_or xs 0 0) (get_or xs 1 0))
got_of kind.End xs = Ok call.End
got_of kind.Enter xs = Ok (call.Enter (record { 0 = get_or xs 0 0 }))
got_of kind.Exit xs = Ok (call.Exit (record { 0 = get_or xs 0 0 }))
got_of kind.Send xs = Ok (call.Send (record { 0 = get_or xs 0 0 }) (record { 0 = get_or xs 1 0 }))
got_of kind.Receive xs = Ok (call.Receive (record { 0 = get_or xs 0 0 }))

-- each number of a call is below the bound of its width
abbrev pub InRange : Call → Type 0
InRange c = Fits (body_of (kind_of_call c)) (fields_of c)

-- the same of what a reader answers
abbrev pub GotInRange : Got → Type 0
GotInRange (Ok c) = InRange c
GotInRange (Err r) = refusal_number r < 256
