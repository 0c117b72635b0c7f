use mathlib.Core.Path.{refl}
use Rattle.executive.specs.Sheet.{decision_of}
use Rattle.executive.proofs.deciding.decide_call.Goals as goal

pub returns-then-nobody_active : goal.returns-then-nobody_active
unfolding decision_of
returns-then-nobody_active c =
    let a = c.args in
    rw (c.refuse.ensures, ← c.nobody_active.ensures a.tasks a.rest, c.if-nobody_active.true) refl

pub by_kind-requires : goal.by_kind-requires
by_kind-requires c = c.requires

pub returns : goal.returns
unfolding decision_of
returns c =
    let a = c.args in
    rw (← c.nobody_active.ensures a.tasks a.rest, c.if-nobody_active.false) c.by_kind.ensures
