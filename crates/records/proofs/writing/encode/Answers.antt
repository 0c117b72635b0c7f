-- `writing::encode` meets its contract: each arm's bytes are those of its row of the table.
use Prim.Native.Nat.{ℕ, ◌≤◌}
use mathlib.Core.Path.{◌≡◌, refl}
use mathlib.Core.List.{List}
use lib.ListN.{length, take}
use lib.Dec.{lit≤}
use Rattle.records.specs.Writing.{bytes_of, Encodes}
use Rattle.records.specs.declared.Call.{Call}
use Rattle.records.proofs.writing.encode.Goals as goal

done : {c : Call} {bs : List ℕ} {n : ℕ} → take n bs ≡ bytes_of c → n ≡ length (bytes_of c) → n ≤ 10 → Encodes c bs n
done b k s = record { bytes = b; count = k; small = s }

pub returns-in-Terminate : goal.returns-in-Terminate
returns-in-Terminate c = let f = c.few.ensures in rw (c.in-Terminate.is, f.0, f.1) (done refl refl (lit≤ tt))

pub returns-in-Restart : goal.returns-in-Restart
returns-in-Restart c = let f = c.few-in-Restart.ensures in rw (c.in-Restart.is, f.0, f.1) (done refl refl (lit≤ tt))

pub returns-in-Pause : goal.returns-in-Pause
returns-in-Pause c = let f = c.few-in-Pause.ensures in rw (c.in-Pause.is, f.0, f.1) (done refl refl (lit≤ tt))

pub returns-in-CancelPause : goal.returns-in-CancelPause
returns-in-CancelPause c = let f = c.few-in-CancelPause.ensures in rw (c.in-CancelPause.is, f.0, f.1) (done refl refl (lit≤ tt))

pub returns-in-StartIfDormant : goal.returns-in-StartIfDormant
returns-in-StartIfDormant c = let f = c.few-in-StartIfDormant.ensures in rw (c.in-StartIfDormant.is, f.0, f.1) (done refl refl (lit≤ tt))

pub returns-in-StartOrQueue : goal.returns-in-StartOrQueue
returns-in-StartOrQueue c = rw c.in-StartOrQueue.is c.start_record.ensures

pub returns-in-Flag : goal.returns-in-Flag
returns-in-Flag c = let f = c.few-in-Flag.ensures in rw (c.in-Flag.is, f.0, f.1) (done refl refl (lit≤ tt))

pub returns-in-Wait : goal.returns-in-Wait
returns-in-Wait c = rw c.in-Wait.is c.wait_record.ensures

pub returns-in-Alarm : goal.returns-in-Alarm
returns-in-Alarm c = let f = c.few-in-Alarm.ensures in rw (c.in-Alarm.is, f.0, f.1) (done refl refl (lit≤ tt))

pub returns-in-Tick : goal.returns-in-Tick
returns-in-Tick c = let f = c.few-in-Tick.ensures in rw (c.in-Tick.is, f.0, f.1) (done refl refl (lit≤ tt))

pub returns-in-Granule : goal.returns-in-Granule
returns-in-Granule c = let f = c.few-in-Granule.ensures in rw (c.in-Granule.is, f.0, f.1) (done refl refl (lit≤ tt))

pub returns-in-Task : goal.returns-in-Task
returns-in-Task c = let f = c.few-in-Task.ensures in rw (c.in-Task.is, f.0, f.1) (done refl refl (lit≤ tt))

pub returns-in-End : goal.returns-in-End
returns-in-End c = let f = c.few-in-End.ensures in rw (c.in-End.is, f.0, f.1) (done refl refl (lit≤ tt))

pub returns-in-Enter : goal.returns-in-Enter
returns-in-Enter c = let f = c.few-in-Enter.ensures in rw (c.in-Enter.is, f.0, f.1) (done refl refl (lit≤ tt))

pub returns-in-Exit : goal.returns-in-Exit
returns-in-Exit c = let f = c.few-in-Exit.ensures in rw (c.in-Exit.is, f.0, f.1) (done refl refl (lit≤ tt))

pub returns-in-Send : goal.returns-in-Send
returns-in-Send c = rw c.in-Send.is c.send_record.ensures

pub returns-in-Receive : goal.returns-in-Receive
returns-in-Receive c = let f = c.few-in-Receive.ensures in rw (c.in-Receive.is, f.0, f.1) (done refl refl (lit≤ tt))
