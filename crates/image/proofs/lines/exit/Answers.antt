use native.Mathlib.Omega.{arith}
use mathlib.Core.Path.{◌∙◌}
use Rattle.image.proofs.Finds.{holder-read}
use Rattle.image.proofs.Sheets.{exit_bad, exit_outside, exit_done}
use Rattle.image.proofs.lines.exit.Goals as goal

pub returns-then-m-gt7 : goal.returns-then-m-gt7
returns-then-m-gt7 c = λ t l. c.refuse.ensures ∙ exit_bad t.tasks t.rest c.args.c c.args.m c.if-m-gt7.true

pub returns-then-c-b : goal.returns-then-c-b
returns-then-c-b c =
    let a = c.args in
    λ t l. c.refuse-then-c-b.ensures ∙ exit_outside t.tasks t.rest a.c a.m c.if-m-gt7.false _ (holder-read t l a.m.0 (omega (arith, c.if-m-gt7.false))) c.if-c-b.true

pub returns : goal.returns
returns c =
    let a = c.args in
    λ t l.
    rw (c.accepted.ensures, c.letting_in-deed.ensures _ c.only_woken.ensures, c.only_z-marks.ensures)
    (exit_done t.tasks t.rest a.c a.m c.if-m-gt7.false _ (holder-read t l a.m.0 (omega (arith, c.if-m-gt7.false))) c.if-c-b.false _ (c.first_of-w.ensures t l))
