use Rattle.std.proofs.Common.{rules, tests, refl, eqb, ◌∙◌}
use Rattle.std.proofs.lemmas.List.Recursion.{is_position_or_len}
use Rattle.executive.specs.Pool.{place_of, found_at}
use Rattle.executive.proofs.Lists.Positions.{position-slice, one_more}
use Rattle.executive.proofs.pool.first_for.Goals as goal

pub returns : goal.returns
unfolding place_of found_at
returns c =
    let a = c.args in
    position-slice (λ q. eqb a.k.0 q.target.0) a.requests.now _ c.position.ensures.ran (search rules) (λ x b q k. search (rules, tests))
    ∙ rw (is_position_or_len (place_of a.k.0) (λ q. eqb a.k.0 q.target.0) refl (λ x xs. one_more (eqb a.k.0 x.target.0) _) a.requests.now) refl
