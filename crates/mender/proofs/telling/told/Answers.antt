use mathlib.Core.Path.{sym, ap, ◌∙◌}
use native.Mathlib.Omega.{arith}
use Rattle.text.proofs.Assured.{named, put_last}
use Rattle.mender.specs.Telling.{note_lines}
use Rattle.mender.proofs.Told.{text-refused, text_same, text_unchanged, text-lines}
use Rattle.mender.proofs.telling.told.Goals as goal

pub returns-then-number-ne0 : goal.returns-then-number-ne0
returns-then-number-ne0 c =
    let a = c.args in
    (named (text-refused a.list a.number a.same c.if-number-ne0.true) c.refused_line.ensures.0, omega (arith, c.refused_line.ensures.1))

pub returns-then-same : goal.returns-then-same
returns-then-same c =
    let a = c.args in
    let p = put_last c.text.ensures (omega (arith, c.requires)) in
    (named (text_same a.list a.number a.same c.if-number-ne0.false c.if-same.true) p, omega (arith, p.place))

pub returns-then-count-eq0 : goal.returns-then-count-eq0
returns-then-count-eq0 c =
    let a = c.args in
    let p = put_last c.text-then-count-eq0.ensures (omega (arith, c.requires)) in
    (named (text_unchanged a.list a.number a.same c.if-number-ne0.false c.if-same.false (sym c.noted_in-count.ensures.0 ∙ c.if-count-eq0.true)) p, omega (arith, p.place))

pub returns : goal.returns
returns c =
    let a = c.args in
    let m = c.noted_in-count.ensures.0 in
    let e = ap (note_lines a.list) m ∙ text-lines a.list a.number a.same c.if-number-ne0.false c.if-same.false (λ z. c.if-count-eq0.false (m ∙ z)) in
    (named e c.note_lines.ensures.0, omega (arith, c.note_lines.ensures.1))
