use native.Mathlib.Omega.{arith}
use mathlib.Core.Path.{◌∙◌}
use Rattle.executive.specs.Subprograms.{sub_at}
use Rattle.image.proofs.Finds.{holder-read, waiting-read, sub-line-at}
use Rattle.image.proofs.Sheets.{enter-bad, enter-inside, enter-free, enter-held}
use Rattle.image.proofs.lines.enter.Goals as goal

pub returns-then-m-gt7 : goal.returns-then-m-gt7
returns-then-m-gt7 c = λ t l w. c.refuse.ensures ∙ enter-bad t.tasks t.rest c.args.c c.args.m c.if-m-gt7.true

pub returns-then-c-holder : goal.returns-then-c-holder
returns-then-c-holder c =
    let a = c.args in
    λ t l w. c.refuse-then-c-holder.ensures ∙ enter-inside t.tasks t.rest a.c a.m c.if-m-gt7.false _ (holder-read t l a.m.0 (omega (arith, c.if-m-gt7.false))) c.if-c-holder.true

pub returns-then-holder-eq0 : goal.returns-then-holder-eq0
returns-then-holder-eq0 c =
    let a = c.args in
    λ t l w.
    rw (c.accepted.ensures, c.alone-gets_in.ensures, c.only_z-marks.ensures)
    (enter-free t.tasks t.rest a.c a.m c.if-m-gt7.false _ (holder-read t l a.m.0 (omega (arith, c.if-m-gt7.false))) c.if-c-holder.false c.if-holder-eq0.true)

pub returns : goal.returns
returns c =
    let a = c.args in
    λ t l w.
    let h = holder-read t l a.m.0 (omega (arith, c.if-m-gt7.false)) in
    let g = waiting-read t l a.m.0 (omega (arith, c.if-m-gt7.false)) in
    let en = c.at_most-n.ensures.value (rw g (w.numbers.waiting a.m.0)) ∙ g in
    rw (c.accepted-2.ensures, c.alone-waits.ensures, c.only_z-marks.ensures)
    (enter-held t.tasks t.rest a.c a.m c.if-m-gt7.false _ h c.if-c-holder.false c.if-holder-eq0.false _ _ _ en (c.level-p.ensures t l)
    (c.ahead-at.ensures.value t l (sub_at t.rest a.m.0).line (sub-line-at t l a.m.0 (omega (arith, c.if-m-gt7.false)))))
