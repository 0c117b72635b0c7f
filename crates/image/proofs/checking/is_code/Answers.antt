-- `checking::is_code` meets its contract: each kind has numbers of its own, and the others are none.
use mathlib.Core.Path.{refl}
use native.Mathlib.Omega.{arith}
use borrow.Author.Tests.{eq-eqb, ne_eqb}
use Rattle.executive.specs.States.{state_of}
use Rattle.image.specs.Image.{state_in}
use Rattle.image.specs.Coding.{are_of}
use Rattle.image.proofs.Loaded.{past-kinds, no_kind_lem}
use Rattle.image.proofs.checking.is_code.Goals as goal

pub returns-in-0 : goal.returns-in-0
unfolding state_in state_of are_of
returns-in-0 c = rw c.in-0.is c.are_none.ensures

pub returns-in-1 : goal.returns-in-1
unfolding state_in state_of are_of
returns-in-1 c = rw c.in-1.is c.are_none-in-1.ensures

pub returns-in-2 : goal.returns-in-2
unfolding state_in state_of are_of
returns-in-2 c = rw (c.in-2.is, eq-eqb c.args.time.0 c.args.time.0 refl) c.are_none-in-2.ensures

pub returns-in-3 : goal.returns-in-3
unfolding state_in state_of are_of
returns-in-3 c = rw (c.in-3.is, eq-eqb c.args.time.0 c.args.time.0 refl) c.are_none-in-3.ensures

pub returns-in-4 : goal.returns-in-4
unfolding state_in state_of are_of
returns-in-4 c = rw (c.in-4.is, eq-eqb c.args.mask c.args.mask refl) c.are_none-in-4.ensures

pub returns-in-5 : goal.returns-in-5
unfolding state_in state_of are_of
returns-in-5 c = rw (c.in-5.is, eq-eqb c.args.mask c.args.mask refl) c.are_none-in-5.ensures

pub returns-in-6 : goal.returns-in-6
unfolding state_in state_of are_of
returns-in-6 c = rw c.in-6.is c.are_none-in-6.ensures

pub returns-in-7 : goal.returns-in-7
unfolding state_in state_of are_of
returns-in-7 c = rw c.in-7.is c.are_none-in-7.ensures

pub returns-in-8 : goal.returns-in-8
unfolding state_in state_of are_of
returns-in-8 c = rw (c.in-8.is, eq-eqb c.args.number c.args.number refl) c.are_none-in-8.ensures

pub returns-in-9 : goal.returns-in-9
unfolding state_in state_of are_of
returns-in-9 c = rw (c.in-9.is, eq-eqb c.args.number c.args.number refl) c.are_none-in-9.ensures

pub returns-in_default : goal.returns-in_default
unfolding are_of
returns-in_default c =
    let x = c.in_default.in_default-own.rest in
    let k = c.args.kind in
    let l = past-kinds k x.0.0.0.0.0.0.0.0.0.1 x.0.0.0.0.0.0.0.0.1 x.0.0.0.0.0.0.0.1 x.0.0.0.0.0.0.1 x.0.0.0.0.0.1 x.0.0.0.0.1 x.0.0.0.1 x.0.0.1 x.0.1 x.1 in
    rw (no_kind_lem k c.args.time c.args.mask c.args.number l, ne_eqb 8 k (λ z. omega (arith, l, z))) refl
