-- `timing::alarm` meets its contract: each outcome is that of the sheet.
use mathlib.Core.Path.{refl, ap, ap₂, ◌∙◌}
use native.Mathlib.Omega.{arith}
use Rattle.executive.specs.declared.Marks.{Marks}
use Rattle.executive.specs.declared.Millis.{Millis}
use Rattle.executive.specs.declared.decisions.Deed.{Deed}
use Rattle.executive.specs.Decisions.{doing}
use Rattle.executive.proofs.Assured.{interval-most}
use Prim.Native.Nat.{ℕ, ◌+◌}
use Rattle.image.proofs.ReadOff.{alarm-read, clock-read, flags-read}
use Rattle.image.proofs.Timings.{alarm-unit, alarm-high, alarm-running, alarm-set, alarm-stored}
use Rattle.image.proofs.timing.alarm.Goals as goal

pub overflow_add-at : goal.overflow_add-at
overflow_add-at c =
    let s = c.args in
    let e = interval-most s.unit s.count (omega arith) in
    omega (arith, rw (← c.millis_of-wait.ensures) at e, c.if-now-gt-END_OF_TIME.false)

pub returns-then-unit-gt-LAST_UNIT : goal.returns-then-unit-gt-LAST_UNIT
returns-then-unit-gt-LAST_UNIT c = λ t l w m k. c.refuse.ensures ∙ alarm-unit t.tasks t.rest k c.args.unit c.args.count c.args.f c.if-unit-gt-LAST_UNIT.true

pub returns-then-f-gt31 : goal.returns-then-f-gt31
returns-then-f-gt31 c = λ t l w m k. c.refuse-then-f-gt31.ensures ∙ alarm-high t.tasks t.rest k c.args.unit c.args.count c.args.f c.if-unit-gt-LAST_UNIT.false c.if-f-gt31.true

pub returns-then-long_in-ne0 : goal.returns-then-long_in-ne0
returns-then-long_in-ne0 c = λ t l w m k. c.refuse-then-long_in-ne0.ensures ∙ alarm-running t.tasks t.rest k c.args.unit c.args.count c.args.f c.if-unit-gt-LAST_UNIT.false c.if-f-gt31.false _ (c.long_in.ensures ∙ alarm-read t l c.args.f.0 (omega (arith, c.if-f-gt31.false))) c.if-long_in-ne0.true

pub returns-then-count-eq0 : goal.returns-then-count-eq0
returns-then-count-eq0 c =
    λ t l w m k.
    c.accepted.ensures ∙ ap₂ (λ (m : Marks) (d : Deed). doing m d) c.marked.ensures refl
    ∙ alarm-set t.tasks t.rest k c.args.unit c.args.count c.args.f
    c.if-unit-gt-LAST_UNIT.false c.if-f-gt31.false _ (c.long_in.ensures ∙ alarm-read t l c.args.f.0 (omega (arith, c.if-f-gt31.false))) c.if-long_in-ne0.false
    _ _ (c.word_in-flags.ensures ∙ flags-read t l) c.bit_of.ensures c.if-count-eq0.true _ (c.set-deed.ensures t l m)

pub returns-then-now-gt-END_OF_TIME : goal.returns-then-now-gt-END_OF_TIME
returns-then-now-gt-END_OF_TIME c = λ t l w m k. absurd (omega (arith, c.long_in-now.ensures ∙ clock-read t l, w.numbers.clock, c.if-now-gt-END_OF_TIME.true))

pub returns : goal.returns
returns c =
    λ t l w m k.
    c.accepted-2.ensures ∙ ap₂ (λ (m : Marks) (d : Deed). doing m d) c.marked-2.ensures c.alone-stored.ensures
    ∙ alarm-stored t.tasks t.rest k c.args.unit c.args.count c.args.f
    c.if-unit-gt-LAST_UNIT.false c.if-f-gt31.false _ (c.long_in.ensures ∙ alarm-read t l c.args.f.0 (omega (arith, c.if-f-gt31.false))) c.if-long_in-ne0.false
    _ _ (c.word_in-flags.ensures ∙ flags-read t l) c.bit_of.ensures c.if-count-eq0.false _
    (ap₂ (λ (x y : ℕ). x + y) (c.long_in-now.ensures ∙ clock-read t l) (ap (λ (m : Millis). m.0) c.millis_of-wait.ensures))
