use mathlib.Core.Path.{◌≡◌, refl}
use native.Mathlib.Omega.{arith}
use lib.ListN.{length, take}
use lib.Seq.{length-take-le}
use borrow.Author.Tests.{le-ltb}
use Rattle.executive.specs.Sheet.{decided}
use Rattle.executive.proofs.deciding.by_kind.Goals as goal

pub alarm-requires : goal.alarm-requires
alarm-requires c = c.requires.clock

pub enter-requires : goal.enter-requires
enter-requires c = rw c.sub_at-s.ensures (c.requires.waiting _)

pub tick-requires : goal.tick-requires
tick-requires c = (c.requires.clock, c.requires.unmet)

pub returns-in-Terminate : goal.returns-in-Terminate
unfolding decided
returns-in-Terminate c = rw (c.terminate.ensures, c.holds_any-holding.ensures, c.in-Terminate.is) refl

pub returns-in-Restart : goal.returns-in-Restart
unfolding decided
returns-in-Restart c =
    let p = c.requires in
    rw (c.restart.ensures, c.holds_any-holding-in-Restart.ensures, c.task_at-e.ensures, le-ltb _ _ p.clock, le-ltb _ _ p.started, c.in-Restart.is) refl

pub returns-in-Pause : goal.returns-in-Pause
unfolding decided
returns-in-Pause c = rw (c.pause.ensures, le-ltb _ _ c.requires.clock, c.in-Pause.is) refl

pub returns-in-CancelPause : goal.returns-in-CancelPause
unfolding decided
returns-in-CancelPause c = rw (c.cancel_pause.ensures, c.task_at-e-in-CancelPause.ensures, c.in-CancelPause.is) refl

pub returns-in-StartIfDormant : goal.returns-in-StartIfDormant
unfolding decided
returns-in-StartIfDormant c = rw (c.start_if_dormant.ensures, c.task_at-e-in-StartIfDormant.ensures, c.in-StartIfDormant.is) refl

pub returns-in-StartOrQueue : goal.returns-in-StartOrQueue
unfolding decided
returns-in-StartOrQueue c = rw (c.start_or_queue.ensures, c.task_at-e-in-StartOrQueue.ensures, c.in-StartOrQueue.is) refl

pub returns-in-Flag : goal.returns-in-Flag
unfolding decided
returns-in-Flag c = rw (c.flag.ensures, c.in-Flag.is) refl

pub returns-in-Wait : goal.returns-in-Wait
unfolding decided
returns-in-Wait c = rw (c.wait.ensures, c.in-Wait.is) refl

pub returns-in-Alarm : goal.returns-in-Alarm
unfolding decided
returns-in-Alarm c = rw (c.alarm.ensures, c.alarm_at-running.ensures, c.in-Alarm.is) refl

pub returns-in-Tick : goal.returns-in-Tick
unfolding decided
returns-in-Tick c = rw (c.tick.ensures c.args.rest refl refl refl refl, c.in-Tick.is) refl

pub returns-in-Granule : goal.returns-in-Granule
unfolding decided
returns-in-Granule c = rw (c.no_call.ensures, c.in-Granule.is) refl

pub returns-in-Task : goal.returns-in-Task
unfolding decided
returns-in-Task c = rw (c.no_call-in-Task.ensures, c.in-Task.is) refl

pub returns-in-End : goal.returns-in-End
unfolding decided
returns-in-End c = rw (c.no_call-in-End.ensures, c.in-End.is) refl

pub returns-in-Enter : goal.returns-in-Enter
unfolding decided
returns-in-Enter c = rw (c.enter.ensures, c.sub_at-s.ensures, c.in-Enter.is) refl

pub returns-in-Exit : goal.returns-in-Exit
unfolding decided
returns-in-Exit c = rw (c.exit.ensures, c.sub_at-s-in-Exit.ensures, c.in-Exit.is) refl

pub returns-in-Send : goal.returns-in-Send
unfolding decided
returns-in-Send c =
    let r = c.args.rest in
    let n : length (take r.sent r.messages) ≡ r.sent = length-take-le r.sent r.messages (omega (arith, c.requires.sent)) in
    rw (c.send.ensures, c.task_at-own.ensures, c.task_at-e-in-Send.ensures, n, c.in-Send.is) refl

pub returns-in-Receive : goal.returns-in-Receive
unfolding decided
returns-in-Receive c = rw (c.receive.ensures, c.in-Receive.is) refl
