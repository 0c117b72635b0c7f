-- `types::length_at` meets its contract: each arm's byte picks its form, and a byte of no arm passes all of them.
use borrow.Author.Tests.{ne_eqb}
use Rattle.blocks.specs.Types.{form_at}
use Rattle.blocks.proofs.types.length_at.Goals as goal

pub returns-in-0 : goal.returns-in-0
unfolding form_at
returns-in-0 c = rw c.in-0.is

pub returns-in-1 : goal.returns-in-1
unfolding form_at
returns-in-1 c = rw c.in-1.is

pub returns-in-2 : goal.returns-in-2
unfolding form_at
returns-in-2 c = rw c.in-2.is

pub returns-in-5 : goal.returns-in-5
unfolding form_at
returns-in-5 c = rw c.in-5.is

pub returns-in_default : goal.returns-in_default
unfolding form_at
returns-in_default c =
    let x = c.in_default.in_default-own.rest in
    simp (ne_eqb _ _ x.0.0.0.1, ne_eqb _ _ x.0.0.1, ne_eqb _ _ x.0.1, ne_eqb _ _ x.1)
