use mathlib.Core.Path.{◌∙◌}
use Rattle.image.proofs.ReadOff.{alarm-read, flags-read}
use Rattle.image.proofs.RestLaid.{ring-none, ring-late, ring-due}
use Rattle.image.proofs.changes.ring.Goals as goal

pub returns-then-alarm-eq0 : goal.returns-then-alarm-eq0
returns-then-alarm-eq0 c = λ t l e. ring-none t c.args.i _ c.args.time (c.long_in-alarm.ensures ∙ alarm-read t l c.args.i c.requires) e c.if-alarm-eq0.true l

pub returns-then-time-alarm : goal.returns-then-time-alarm
returns-then-time-alarm c = λ t l e. ring-late t c.args.i _ c.args.time (c.long_in-alarm.ensures ∙ alarm-read t l c.args.i c.requires) e c.if-alarm-eq0.false c.if-time-alarm.true l

pub returns : goal.returns
returns c =
    λ t l e.
    ring-due t c.args.i _ c.args.time (c.long_in-alarm.ensures ∙ alarm-read t l c.args.i c.requires) e c.if-alarm-eq0.false c.if-time-alarm.false _ _
    (c.word_in-flags.ensures ∙ flags-read t l) c.bit_of.ensures (c.set_flags.ensures _ (c.set_alarm.ensures t l))
