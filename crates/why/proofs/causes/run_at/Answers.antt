-- `causes::run_at` meets its contract: the library's search finds the task.
use native.Mathlib.Omega.{arith}
use mathlib.Core.Path.{◌≡◌, sym}
use mathlib.Core.Bool.{Bool}
use borrow.Author.Tests.{tests}
use lib.Dec.{eqb}
use lib.ListN.{length}
use Rattle.std.proofs.Common.{rules}
use Rattle.std.proofs.lemmas.Iterator.{YieldsList-from_slice}
use Rattle.std.proofs.lemmas.Iterator.Search.{position_from_yields_List}
use Rattle.why.proofs.Searching.{next-or}
use Rattle.executive.specs.declared.Task.{Task}
use Rattle.why.specs.Causes.{run_at}
use Rattle.why.proofs.causes.run_at.Goals as goal

pub returns : goal.returns
unfolding run_at
returns c =
    let a = c.args in
    let l : length a.tasks ≡ 16 = c.well_formed.0.1.0.1 in
    let t : Task → Bool = λ e. eqb a.k.0 e.end_waiter.0 in
    let f = position_from_yields_List t _ _ c.position.result c.position.ensures.ran (YieldsList-from_slice a.tasks cc) (λ x b q k. search (rules, tests)) in
    next-or t a.tasks _ f 1 16 _ (sym l) (omega (arith, c.unwrap_or-i.ensures))
