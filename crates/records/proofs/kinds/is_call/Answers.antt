-- `kinds::is_call` meets its contract: each arm's kind picks its row of the table.
use Rattle.records.proofs.kinds.is_call.Goals as goal

pub returns-in-Unknown : goal.returns-in-Unknown
returns-in-Unknown c = rw c.in-Unknown.is

pub returns-in-Terminate : goal.returns-in-Terminate
returns-in-Terminate c = rw c.in-Terminate.is

pub returns-in-Restart : goal.returns-in-Restart
returns-in-Restart c = rw c.in-Restart.is

pub returns-in-Pause : goal.returns-in-Pause
returns-in-Pause c = rw c.in-Pause.is

pub returns-in-CancelPause : goal.returns-in-CancelPause
returns-in-CancelPause c = rw c.in-CancelPause.is

pub returns-in-StartIfDormant : goal.returns-in-StartIfDormant
returns-in-StartIfDormant c = rw c.in-StartIfDormant.is

pub returns-in-StartOrQueue : goal.returns-in-StartOrQueue
returns-in-StartOrQueue c = rw c.in-StartOrQueue.is

pub returns-in-Flag : goal.returns-in-Flag
returns-in-Flag c = rw c.in-Flag.is

pub returns-in-Wait : goal.returns-in-Wait
returns-in-Wait c = rw c.in-Wait.is

pub returns-in-Alarm : goal.returns-in-Alarm
returns-in-Alarm c = rw c.in-Alarm.is

pub returns-in-Tick : goal.returns-in-Tick
returns-in-Tick c = rw c.in-Tick.is

pub returns-in-Granule : goal.returns-in-Granule
returns-in-Granule c = rw c.in-Granule.is

pub returns-in-Task : goal.returns-in-Task
returns-in-Task c = rw c.in-Task.is

pub returns-in-End : goal.returns-in-End
returns-in-End c = rw c.in-End.is

pub returns-in-Enter : goal.returns-in-Enter
returns-in-Enter c = rw c.in-Enter.is

pub returns-in-Exit : goal.returns-in-Exit
returns-in-Exit c = rw c.in-Exit.is

pub returns-in-Send : goal.returns-in-Send
returns-in-Send c = rw c.in-Send.is

pub returns-in-Receive : goal.returns-in-Receive
returns-in-Receive c = rw c.in-Receive.is
