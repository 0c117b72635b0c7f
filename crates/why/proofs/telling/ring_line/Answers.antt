-- `telling::ring_line` meets its contract: with no task in the ring nothing is added.
use native.Mathlib.Omega.{arith}
use mathlib.Core.Path.{sym, ◌∙◌}
use borrow.Author.Tests.{eqb-true, eqb-false}
use Rattle.text.proofs.Assured.{nothing, then, named, put_last}
use Rattle.why.proofs.Told.{ring-none, ring-some}
use Rattle.why.proofs.telling.ring_line.Goals as goal

pub returns-then-is_empty : goal.returns-then-is_empty
returns-then-is_empty c =
    let a = c.args in
    (named (ring-none a.ring.now (eqb-true _ _ (sym c.is_empty.ensures ∙ c.if-is_empty.true))) (nothing a.out.now a.at), omega arith)

pub task_numbers-b-requires : goal.task_numbers-b-requires
task_numbers-b-requires c =
    let p = put_last c.text-a.ensures (omega (arith, c.requires.0)) in
    (omega (arith, p.place, p.size, c.requires.0), c.requires.1)

pub returns : goal.returns
returns c =
    let a = c.args in
    let p = put_last c.text-a.ensures (omega (arith, c.requires.0)) in
    let t = c.task_numbers-b.ensures in
    let q = put_last c.put.ensures (omega (arith, p.place, p.size, t.1, t.0.size, c.requires.0)) in
    (named (ring-some a.ring.now (omega (arith, eqb-false _ _ (sym c.is_empty.ensures ∙ c.if-is_empty.false)))) (then p (then t.0 q)), omega (arith, p.place, t.1, q.place))
