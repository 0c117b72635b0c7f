use native.Mathlib.Omega.{arith}
use Rattle.text.proofs.Assured.{promises, then, put_last}
use Rattle.mender.specs.Telling.{note_line}
use Rattle.mender.proofs.telling.note_line.Goals as goal

pub rule_words-d-requires : goal.rule_words-d-requires
rule_words-d-requires c =
    let l = promises.digits 2 c.args.task (omega (arith, c.ranges)) in
    let p = put_last c.text-a.ensures (omega (arith, c.requires)) in
    let d = put_last c.decimal-b.ensures (omega (arith, l, p.place, p.size, c.requires)) in
    let q = put_last c.text-c.ensures (omega (arith, l, p.place, p.size, d.place, d.size, c.requires)) in
    omega (arith, l, p.place, p.size, d.place, d.size, q.place, q.size, c.requires)

pub returns : goal.returns
unfolding note_line
returns c =
    let l = promises.digits 2 c.args.task (omega (arith, c.ranges)) in
    let p = put_last c.text-a.ensures (omega (arith, c.requires)) in
    let d = put_last c.decimal-b.ensures (omega (arith, l, p.place, p.size, c.requires)) in
    let q = put_last c.text-c.ensures (omega (arith, l, p.place, p.size, d.place, d.size, c.requires)) in
    let w = c.rule_words-d.ensures in
    let e = put_last c.put.ensures (omega (arith, l, p.place, p.size, d.place, d.size, q.place, q.size, w.1, w.0.size, c.requires)) in
    (then p (then d (then q (then w.0 e))), omega (arith, l, p.place, d.place, q.place, w.1, e.place))
