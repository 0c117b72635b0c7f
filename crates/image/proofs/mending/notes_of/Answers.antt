-- `mending::notes_of` meets its contract. The invariant: the notes so far, and those of the places from i on, are the list.
use mathlib.Core.Path.{refl, ◌∙◌}
use native.Mathlib.Omega.{arith}
use Rattle.executive.specs.Lists.{pad}
use Rattle.image.specs.Mending.{list_rule}
use Rattle.image.proofs.Noted.{notes_turn, notes_end}
use Rattle.image.proofs.mending.notes_of.Goals as goal

pub loop-i-init : goal.loop-i-init
unfolding pad
loop-i-init c = (refl, omega arith, refl)

pub loop-i-preserved : goal.loop-i-preserved
loop-i-preserved c =
    let a = c.args in
    let v = c.loop-i in
    let n =
    notes_turn (list_rule a.bytes.now a.given.now) v.l c.with_note-l.result v.i v.invariant.0 v.invariant.1
    c.loop-i-test.true _ c.list_rule-rule.ensures c.with_note-l.ensures in
    (n.tidy, n.few, n.more ∙ v.invariant.2)

pub returns : goal.returns
returns c =
    let a = c.args in
    let v = c.loop-i in
    notes_end (list_rule a.bytes.now a.given.now) v.l v.i c.loop-i-test.false v.invariant.0 v.invariant.2
