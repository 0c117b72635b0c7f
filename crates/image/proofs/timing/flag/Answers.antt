-- `timing::flag` meets its contract: each outcome is that of the sheet.
use mathlib.Core.Path.{refl, ap₂, ◌∙◌}
use Rattle.executive.specs.declared.Marks.{Marks}
use Rattle.executive.specs.declared.decisions.Deed.{Deed}
use Rattle.executive.specs.Decisions.{doing}
use Rattle.image.proofs.ReadOff.{flags-read}
use Rattle.image.proofs.Timings.{flag-high, flag-odd, flag-reset, flag-set, flag-test}
use Rattle.image.proofs.timing.flag.Goals as goal

pub returns-then-f-gt31 : goal.returns-then-f-gt31
returns-then-f-gt31 c = λ t l w m k. c.refuse.ensures ∙ flag-high t.tasks t.rest k c.args.operation c.args.f c.if-f-gt31.true

pub returns-then-operation-gt2 : goal.returns-then-operation-gt2
returns-then-operation-gt2 c = λ t l w m k. c.refuse-then-operation-gt2.ensures ∙ flag-odd t.tasks t.rest k c.args.operation c.args.f c.if-f-gt31.false c.if-operation-gt2.true

pub returns-then-operation-eq0 : goal.returns-then-operation-eq0
returns-then-operation-eq0 c =
    λ t l w m k.
    c.accepted.ensures ∙ ap₂ (λ (m : Marks) (d : Deed). doing m d) c.marked.ensures c.alone-reset.ensures
    ∙ flag-reset t.tasks t.rest k c.args.operation c.args.f c.if-f-gt31.false c.if-operation-gt2.false _ _ (c.word_in-flags.ensures ∙ flags-read t l) c.bit_of-bit.ensures c.if-operation-eq0.true

pub returns-then-operation-eq1 : goal.returns-then-operation-eq1
returns-then-operation-eq1 c =
    λ t l w m k.
    c.accepted-then-operation-eq1.ensures ∙ ap₂ (λ (m : Marks) (d : Deed). doing m d) c.marked-then-operation-eq1.ensures refl
    ∙ flag-set t.tasks t.rest k c.args.operation c.args.f c.if-f-gt31.false c.if-operation-gt2.false _ _ (c.word_in-flags.ensures ∙ flags-read t l) c.bit_of-bit.ensures c.if-operation-eq1.true _ (c.set-deed.ensures t l m)

pub returns : goal.returns
returns c =
    λ t l w m k.
    c.accepted-2.ensures ∙ ap₂ (λ (m : Marks) (d : Deed). doing m d) c.marked-2.ensures c.nothing-still.ensures
    ∙ flag-test t.tasks t.rest k c.args.operation c.args.f c.if-f-gt31.false c.if-operation-gt2.false _ _ (c.word_in-flags.ensures ∙ flags-read t l) c.bit_of-bit.ensures c.if-operation-eq0.false c.if-operation-eq1.false
