use Rattle.std.proofs.Common.{◌≡◌, ◌∙◌, arith, rules}
use Rattle.std.specs.List.{list_all}
use Rattle.std.proofs.lemmas.Iterator.{YieldsList-from_slice}
use Rattle.std.proofs.lemmas.Iterator.Search.{all_from_yields_List}
use borrow.Author.Tests.{le-leb, tests}
use Rattle.scan.specs.Entries.{most_arrivals}
use Rattle.scan.specs.Sound.{arrival_right}
use Rattle.scan.proofs.Chains.{tested}
use Rattle.scan.proofs.checking.numbers_right.Goals as goal

pub returns : goal.returns
returns c =
    let right = arrival_right c.args.last c.args.all.now in
    let n : c.all.result ≡ list_all (arrival_right c.args.last c.args.all.now) c.args.all.now =
    all_from_yields_List right _ _ c.all.result c.all.ensures.ran (YieldsList-from_slice c.args.all.now cc) (λ x b q k. search (rules, tests)) in
    rw (le-leb c.args.last most_arrivals (omega arith)) (n ∙ tested right c.args.all.now)
