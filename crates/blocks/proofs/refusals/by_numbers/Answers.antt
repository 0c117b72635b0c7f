-- `refusals::by_numbers` meets its contract: each arm's call picks its form.
use Prim.Native.Nat.{ℕ}
use mathlib.Core.Bool.{Bool, true, false, cond, ◌||◌}
use mathlib.Core.Path.{◌≡◌, refl}
use lib.Dec.{eqb, ltb}
use Rattle.records.specs.Firsts.{first_of}
use Rattle.blocks.specs.Types.{form_of}
use Rattle.blocks.proofs.refusals.by_numbers.Goals as goal

pub returns-in-Terminate : goal.returns-in-Terminate
unfolding form_of first_of
returns-in-Terminate c = rw c.in-Terminate.is

pub returns-in-Restart : goal.returns-in-Restart
unfolding form_of first_of
returns-in-Restart c = rw (c.in-Restart.is, c.by_parameter.ensures)

pub returns-in-Pause : goal.returns-in-Pause
unfolding form_of first_of
returns-in-Pause c = rw (c.in-Pause.is, c.by_unit.ensures)

pub returns-in-CancelPause : goal.returns-in-CancelPause
unfolding form_of first_of
returns-in-CancelPause c = rw c.in-CancelPause.is

pub returns-in-StartIfDormant : goal.returns-in-StartIfDormant
unfolding form_of first_of
returns-in-StartIfDormant c = rw c.in-StartIfDormant.is

-- a test and no other
alone : (b : Bool) → ◌≡◌ {A = ℕ} (cond b 19 0) (cond (b || false) 19 0)
alone true = refl
alone false = refl

pub returns-in-StartOrQueue : goal.returns-in-StartOrQueue
unfolding form_of first_of
returns-in-StartOrQueue c =
    let k = c.in-StartOrQueue.task in
    rw (c.in-StartOrQueue.is, c.by_task.ensures) (alone (eqb k.0 0 || ltb c.args.count k.0))

pub returns-in-Flag : goal.returns-in-Flag
unfolding form_of first_of
returns-in-Flag c = rw c.in-Flag.is

pub returns-in-Wait : goal.returns-in-Wait
unfolding form_of first_of
returns-in-Wait c = rw c.in-Wait.is

pub returns-in-Alarm : goal.returns-in-Alarm
unfolding form_of first_of
returns-in-Alarm c = rw c.in-Alarm.is

pub returns-in-Tick : goal.returns-in-Tick
unfolding form_of first_of
returns-in-Tick c = rw c.in-Tick.is

pub returns-in-Granule : goal.returns-in-Granule
unfolding form_of first_of
returns-in-Granule c = rw c.in-Granule.is

pub returns-in-Task : goal.returns-in-Task
unfolding form_of first_of
returns-in-Task c = rw c.in-Task.is

pub returns-in-End : goal.returns-in-End
unfolding form_of first_of
returns-in-End c = rw c.in-End.is

pub returns-in-Enter : goal.returns-in-Enter
unfolding form_of first_of
returns-in-Enter c = rw c.in-Enter.is

pub returns-in-Exit : goal.returns-in-Exit
unfolding form_of first_of
returns-in-Exit c = rw c.in-Exit.is

pub returns-in-Send : goal.returns-in-Send
unfolding form_of first_of
returns-in-Send c = rw c.in-Send.is

pub returns-in-Receive : goal.returns-in-Receive
unfolding form_of first_of
returns-in-Receive c = rw c.in-Receive.is
