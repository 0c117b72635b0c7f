use Rattle.std.proofs.Common.{rules, tests, ◌≡◌, ◌∙◌}
use Rattle.std.specs.List.{list_any}
use Rattle.std.proofs.lemmas.Iterator.{YieldsList-from_slice}
use Rattle.std.proofs.lemmas.Iterator.Search.{any_from_yields_List}
use Rattle.executive.specs.Subprograms.{holds?, holds_any_of}
use Rattle.executive.proofs.Lists.Positions.{any_is}
use Rattle.executive.proofs.subprograms.holds_any.Goals as goal

pub returns : goal.returns
unfolding holds_any_of
returns c =
    let a = c.args in
    let e : c.any.result ≡ list_any (holds? a.k) a.subs.now =
    any_from_yields_List _ _ _ _ c.any.ensures.ran (YieldsList-from_slice a.subs.now (cc)) (λ x b q k. search (rules, tests)) in
    e ∙ any_is (holds? a.k) a.subs.now
