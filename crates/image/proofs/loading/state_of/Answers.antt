-- `loading::state_of` meets its contract: each arm's byte picks its state.
use mathlib.Core.Path.{sym}
use Rattle.executive.specs.States.{state_of}
use Rattle.image.specs.Image.{state_in}
use Rattle.image.proofs.Loaded.{past-kinds, no_kind_lem}
use Rattle.image.proofs.loading.state_of.Goals as goal

pub returns-in-0 : goal.returns-in-0
unfolding state_in state_of
returns-in-0 c = rw c.in-0.is

pub returns-in-1 : goal.returns-in-1
unfolding state_in state_of
returns-in-1 c = rw c.in-1.is

pub returns-in-2 : goal.returns-in-2
unfolding state_in state_of
returns-in-2 c = rw c.in-2.is

pub returns-in-3 : goal.returns-in-3
unfolding state_in state_of
returns-in-3 c = rw c.in-3.is

pub returns-in-4 : goal.returns-in-4
unfolding state_in state_of
returns-in-4 c = rw c.in-4.is

pub returns-in-5 : goal.returns-in-5
unfolding state_in state_of
returns-in-5 c = rw c.in-5.is

pub returns-in-6 : goal.returns-in-6
unfolding state_in state_of
returns-in-6 c = rw c.in-6.is

pub returns-in-7 : goal.returns-in-7
unfolding state_in state_of
returns-in-7 c = rw c.in-7.is

pub returns-in-8 : goal.returns-in-8
unfolding state_in state_of
returns-in-8 c = rw c.in-8.is

pub returns-in-9 : goal.returns-in-9
unfolding state_in state_of
returns-in-9 c = rw c.in-9.is

pub returns-in_default : goal.returns-in_default
returns-in_default c =
    let x = c.in_default.in_default-own.rest in
    let l = past-kinds c.args.kind x.0.0.0.0.0.0.0.0.0.1 x.0.0.0.0.0.0.0.0.1 x.0.0.0.0.0.0.0.1 x.0.0.0.0.0.0.1 x.0.0.0.0.0.1 x.0.0.0.0.1 x.0.0.0.1 x.0.0.1 x.0.1 x.1 in
    sym (no_kind_lem c.args.kind _ _ _ l)
