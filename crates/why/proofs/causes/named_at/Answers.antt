-- `causes::named_at` meets its contract: the library's search finds the request.
use Prim.Native.Nat.{◌+◌}
use mathlib.Core.Path.{refl}
use mathlib.Core.Bool.{Bool}
use borrow.Author.Tests.{tests}
use lib.Dec.{eqb}
use Rattle.std.proofs.Common.{rules}
use Rattle.std.proofs.lemmas.Iterator.{YieldsList-from_slice}
use Rattle.std.proofs.lemmas.Iterator.Search.{position_from_yields_List}
use Rattle.why.proofs.Searching.{next-where}
use Rattle.executive.specs.declared.Request.{Request}
use Rattle.why.specs.Causes.{waiter_of, named_at}
use Rattle.why.proofs.causes.named_at.Goals as goal

pub returns : goal.returns
unfolding named_at
returns c =
    let a = c.args in
    let t : Request → Bool = λ r. eqb a.k.0 (waiter_of a.at_start r) in
    let f = position_from_yields_List t _ _ c.position.result c.position.ensures.ran (YieldsList-from_slice a.pool.now cc) (λ x b q k. search (rules, tests)) in
    next-where t a.pool.now _ f 1 (λ i. i + 1) (λ i. refl)
