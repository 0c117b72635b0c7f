-- `following::met_at` meets its contract: the library's search finds the step.
use native.Mathlib.Omega.{arith}
use mathlib.Core.Bool.{Bool}
use borrow.Author.Tests.{tests}
use lib.Dec.{eqb}
use Rattle.std.proofs.Common.{rules}
use Rattle.std.proofs.lemmas.Iterator.{YieldsList-from_slice}
use Rattle.std.proofs.lemmas.Iterator.Search.{position_from_yields_List}
use Rattle.why.proofs.Searching.{next-where}
use Rattle.why.specs.declared.Step.{Step}
use Rattle.why.proofs.following.met_at.Goals as goal

pub returns : goal.returns
returns c =
    let a = c.args in
    let t : Step → Bool = λ s. eqb a.k.0 s.task.0 in
    let f = position_from_yields_List t _ _ c.position.result c.position.ensures.ran (YieldsList-from_slice a.path.now cc) (λ x b q k. search (rules, tests)) in
    next-where t a.path.now _ f 0 (λ i. i) (λ i. omega arith)
