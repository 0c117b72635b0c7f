-- `causes::target_at` meets its contract: 0 and what is past the queued ones is no place.
use native.Mathlib.Omega.{arith}
use mathlib.Core.Path.{◌∙◌, ap, sym}
use lib.ListN.{take}
use lib.Seq.{length-take-le}
use Rattle.why.specs.Causes.{target_at}
use Rattle.why.proofs.Causing.{target_none, target_past, target_in}
use Rattle.why.proofs.causes.target_at.Goals as goal

pub returns-then-place-eq0 : goal.returns-then-place-eq0
returns-then-place-eq0 c =
    let a = c.args in
    target_none (take a.queued a.pool) ∙ ap (λ p. target_at p (take a.queued a.pool)) (sym c.if-place-eq0.true)

pub returns-then-queued-place : goal.returns-then-queued-place
returns-then-queued-place c =
    let a = c.args in
    let l = c.well_formed.0.1.0.1 in
    target_past (take a.queued a.pool) a.place (omega (arith, length-take-le a.queued a.pool (omega arith), c.if-queued-place.true))

pub returns : goal.returns
returns c =
    let a = c.args in
    target_in a.pool a.queued a.place (omega arith) (omega arith)
