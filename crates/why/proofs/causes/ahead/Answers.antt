-- `causes::ahead` meets its contract: the library's search finds the place.
use native.Mathlib.Omega.{arith}
use mathlib.Core.Path.{refl}
use mathlib.Core.Bool.{Bool}
use borrow.Author.Tests.{tests}
use lib.Dec.{eqb}
use Rattle.std.proofs.Common.{rules}
use Rattle.std.proofs.lemmas.Iterator.{YieldsList-from_slice}
use Rattle.std.proofs.lemmas.Iterator.Search.{position_from_yields_List}
use Rattle.why.proofs.Searching.{next-or}
use Rattle.records.specs.declared.TaskNo.{TaskNo}
use Rattle.why.proofs.Searching.{next-from}
use Rattle.executive.specs.Places.{nobody}
use Rattle.why.proofs.causes.ahead.Goals as goal

pub returns : goal.returns
returns c =
    let a = c.args in
    let t : TaskNo → Bool = λ x. eqb a.k.0 x.0 in
    let f = position_from_yields_List t _ _ c.position.result c.position.ensures.ran (YieldsList-from_slice a.queue.now cc) (λ x b q k. search (rules, tests)) in
    let e = next-or t a.queue.now _ f 0 _ c.unwrap_or.result refl (omega (arith, c.unwrap_or.ensures)) in
    (e, omega (arith, e, (next-from t nobody 0 a.queue.now).1))
