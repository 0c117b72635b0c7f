-- `mend` meets its contract: its three outcomes are the definition's.
use mathlib.Core.Path.{sym}
use native.Mathlib.Omega.{arith}
use Rattle.image.proofs.Listed.{mend_short, mend_none, mend_kept}
use Rattle.image.proofs.mend.Goals as goal

pub returns-then-list-lt33 : goal.returns-then-list-lt33
returns-then-list-lt33 c =
    let a = c.args in
    let e = mend_short a.image.now a.list.now c.if-list-lt33.true in
    record { number = e.0; image = e.1; list = e.2; holds = λ z. absurd (omega arith) }

pub returns-in_default : goal.returns-in_default
returns-in_default c =
    let a = c.args in
    let e = mend_none a.image.now a.list.now c.if-list-lt33.false c.in_default.ensures.cases in
    let k = mend_kept a.image.now a.list.now (λ y. omega (arith, y, e)) in
    record { number = sym e; image = k.0; list = k.1; holds = λ z. absurd (omega arith) }

pub returns : goal.returns
returns c = rw c.in-Some.ensures.cases.same at c.mend_whole.ensures
