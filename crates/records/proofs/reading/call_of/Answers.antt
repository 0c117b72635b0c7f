-- `reading::call_of` meets its contract: each arm's kind picks its row of the table, whose widths say which bytes are
-- which number.
use Rattle.records.proofs.reading.call_of.Goals as goal

pub returns-in-Restart : goal.returns-in-Restart
returns-in-Restart c = rw (c.in-Restart.is, c.byte_at-a.ensures, c.byte_at-b.ensures)

pub returns-in-Pause : goal.returns-in-Pause
returns-in-Pause c = rw (c.in-Pause.is, c.byte_at-a.ensures, c.byte_at-b.ensures)

pub returns-in-CancelPause : goal.returns-in-CancelPause
returns-in-CancelPause c = rw (c.in-CancelPause.is, c.byte_at-a.ensures)

pub returns-in-StartIfDormant : goal.returns-in-StartIfDormant
returns-in-StartIfDormant c = rw (c.in-StartIfDormant.is, c.byte_at-a.ensures, c.byte_at-b.ensures)

pub returns-in-StartOrQueue : goal.returns-in-StartOrQueue
returns-in-StartOrQueue c = rw c.in-StartOrQueue.is c.start_of.ensures

pub returns-in-Flag : goal.returns-in-Flag
returns-in-Flag c = rw (c.in-Flag.is, c.byte_at-a.ensures, c.byte_at-b.ensures)

pub returns-in-Wait : goal.returns-in-Wait
returns-in-Wait c = rw c.in-Wait.is c.wait_of.ensures

pub returns-in-Alarm : goal.returns-in-Alarm
returns-in-Alarm c =
    rw (c.in-Alarm.is, c.byte_at-a.ensures, c.byte_at-b.ensures, c.byte_at.ensures)

pub returns-in-Granule : goal.returns-in-Granule
returns-in-Granule c = rw (c.in-Granule.is, c.byte_at-a.ensures)

pub returns-in-Task : goal.returns-in-Task
returns-in-Task c = rw (c.in-Task.is, c.byte_at-a.ensures, c.byte_at-b.ensures)

pub returns-in-Enter : goal.returns-in-Enter
returns-in-Enter c = rw (c.in-Enter.is, c.byte_at-a.ensures)

pub returns-in-Exit : goal.returns-in-Exit
returns-in-Exit c = rw (c.in-Exit.is, c.byte_at-a.ensures)

pub returns-in-Send : goal.returns-in-Send
returns-in-Send c = rw c.in-Send.is c.send_of.ensures

pub returns-in-Receive : goal.returns-in-Receive
returns-in-Receive c = rw (c.in-Receive.is, c.byte_at-a.ensures)

pub returns-in-Unknown : goal.returns-in-Unknown
returns-in-Unknown c = rw c.in-Unknown.is

pub returns-in-Terminate : goal.returns-in-Terminate
returns-in-Terminate c = rw c.in-Terminate.is

pub returns-in-Tick : goal.returns-in-Tick
returns-in-Tick c = rw c.in-Tick.is

pub returns-in-End : goal.returns-in-End
returns-in-End c = rw c.in-End.is
