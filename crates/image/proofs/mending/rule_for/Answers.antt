-- `mending::rule_for` meets its contract. The invariant: the notes so far are of other tasks.
use native.Mathlib.Omega.{arith}
use Rattle.image.proofs.Noted.{rule-hit, rule-pass, rule_end}
use Rattle.image.proofs.mending.rule_for.Goals as goal

pub returns-then-k-note : goal.returns-then-k-note
returns-then-k-note c =
    let a = c.args in
    let v = c.loop-note in
    rule-hit a.otherwise a.k a.list.now v.note-index (omega arith) v.invariant c.if-k-note.true

pub loop-note-preserved : goal.loop-note-preserved
loop-note-preserved c =
    let a = c.args in
    let v = c.loop-note in
    rule-pass a.otherwise a.k a.list.now v.note-index (omega arith) v.invariant c.if-k-note.false

pub returns : goal.returns
returns c =
    let a = c.args in
    let v = c.loop-note in
    rule_end a.otherwise a.k a.list.now v.note-index (omega arith) v.invariant
