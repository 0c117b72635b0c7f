-- `writing::lay` meets its contract: each arm's bytes are those of its form.
use mathlib.Core.Path.{refl}
use lib.Dec.{lit≤}
use borrow.Author.Rules.{rules}
use Rattle.blocks.specs.Types.{form_of}
use Rattle.blocks.proofs.Places.{clash}
use Rattle.blocks.proofs.writing.lay.Goals as goal

pub returns-in-Terminate : goal.returns-in-Terminate
unfolding form_of
returns-in-Terminate c = rw c.in-Terminate.is (record { size = refl; small = lit≤ tt; block = λ e. refl })

pub returns-in-Restart : goal.returns-in-Restart
unfolding form_of
returns-in-Restart c = rw c.in-Restart.is (record { size = refl; small = lit≤ tt; block = λ e. refl })

pub returns-in-Pause : goal.returns-in-Pause
unfolding form_of
returns-in-Pause c = rw c.in-Pause.is (record { size = refl; small = lit≤ tt; block = λ e. refl })

pub returns-in-CancelPause : goal.returns-in-CancelPause
unfolding form_of
returns-in-CancelPause c = rw c.in-CancelPause.is (record { size = refl; small = lit≤ tt; block = λ e. clash e })

pub returns-in-StartIfDormant : goal.returns-in-StartIfDormant
unfolding form_of
returns-in-StartIfDormant c = rw c.in-StartIfDormant.is (record { size = refl; small = lit≤ tt; block = λ e. clash e })

pub returns-in-StartOrQueue : goal.returns-in-StartOrQueue
unfolding form_of
returns-in-StartOrQueue c =
    rw (c.in-StartOrQueue.is, c.to_be_bytes.ensures, c.to_be_bytes-in-StartOrQueue.ensures, c.address_of-address.ensures)
    (record { size = refl; small = lit≤ tt; block = λ e. (let h = c.address_of-address.type_inv in let w = c.type_inv in search rules) })

pub returns-in-Flag : goal.returns-in-Flag
unfolding form_of
returns-in-Flag c = rw c.in-Flag.is (record { size = refl; small = lit≤ tt; block = λ e. clash e })

pub returns-in-Wait : goal.returns-in-Wait
unfolding form_of
returns-in-Wait c = rw c.in-Wait.is (record { size = refl; small = lit≤ tt; block = λ e. clash e })

pub returns-in-Alarm : goal.returns-in-Alarm
unfolding form_of
returns-in-Alarm c = rw c.in-Alarm.is (record { size = refl; small = lit≤ tt; block = λ e. clash e })

pub returns-in-Tick : goal.returns-in-Tick
unfolding form_of
returns-in-Tick c = rw c.in-Tick.is (record { size = refl; small = lit≤ tt; block = λ e. clash e })

pub returns-in-Granule : goal.returns-in-Granule
unfolding form_of
returns-in-Granule c = rw c.in-Granule.is (record { size = refl; small = lit≤ tt; block = λ e. clash e })

pub returns-in-Task : goal.returns-in-Task
unfolding form_of
returns-in-Task c = rw c.in-Task.is (record { size = refl; small = lit≤ tt; block = λ e. clash e })

pub returns-in-End : goal.returns-in-End
unfolding form_of
returns-in-End c = rw c.in-End.is (record { size = refl; small = lit≤ tt; block = λ e. clash e })

pub returns-in-Enter : goal.returns-in-Enter
unfolding form_of
returns-in-Enter c = rw c.in-Enter.is (record { size = refl; small = lit≤ tt; block = λ e. clash e })

pub returns-in-Exit : goal.returns-in-Exit
unfolding form_of
returns-in-Exit c = rw c.in-Exit.is (record { size = refl; small = lit≤ tt; block = λ e. clash e })

pub returns-in-Send : goal.returns-in-Send
unfolding form_of
returns-in-Send c = rw c.in-Send.is (record { size = refl; small = lit≤ tt; block = λ e. clash e })

pub returns-in-Receive : goal.returns-in-Receive
unfolding form_of
returns-in-Receive c = rw c.in-Receive.is (record { size = refl; small = lit≤ tt; block = λ e. clash e })
