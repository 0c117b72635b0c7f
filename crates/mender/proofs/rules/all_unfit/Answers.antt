use mathlib.Core.Path.{◌∙◌}
use Rattle.std.proofs.Common.{rules}
use borrow.Author.Tests.{tests}
use Rattle.std.proofs.lemmas.Iterator.{YieldsList-from_slice}
use Rattle.std.proofs.lemmas.Iterator.Search.{all_from_yields_List}
use Rattle.mender.specs.Rules.{unfit}
use Rattle.mender.proofs.Searching.{all_listed}
use Rattle.mender.proofs.rules.all_unfit.Goals as goal

pub returns : goal.returns
returns c =
    let a = c.args in
    all_from_yields_List (unfit a.k.0 a.s.0) _ _ _ c.all.ensures.ran (YieldsList-from_slice a.places cc) (λ x b q k. search (rules, tests)) ∙ all_listed (unfit a.k.0 a.s.0) a.places
