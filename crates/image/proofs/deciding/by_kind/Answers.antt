-- Each kind is decided by its own function, with the sets that it asks for.
use mathlib.Core.Path.{refl}
use mathlib.Core.Logic.{inl, inr}
use Rattle.executive.specs.Sheet.{decided}
use Rattle.image.proofs.deciding.by_kind.Goals as goal

pub returns-in-Granule : goal.returns-in-Granule
unfolding decided
returns-in-Granule c = λ t l w k.
    rw c.no_call.ensures (elim c.in-Granule.is [
      | inl h ↦ rw h.1 refl
      | inr h ↦ elim h [ inl j ↦ rw j.2 refl | inr j ↦ rw j refl ]
    ])
