-- `kinds::kind_of` meets its contract: each arm's byte picks its row of the table, and a byte of no arm passes every
-- row.
use borrow.Author.Tests.{ne_eqb}
use Rattle.records.specs.Kinds.{kind_of}
use Rattle.records.proofs.kinds.kind_of.Goals as goal

pub returns-in_default : goal.returns-in_default
unfolding kind_of
returns-in_default c =
    let x = c.in_default.in_default-own.rest in
    simp (
      ne_eqb _ _ x.0.0.0.0.0.0.0.0.0.0.0.0.0.0.0.0.1,
      ne_eqb _ _ x.0.0.0.0.0.0.0.0.0.0.0.0.0.0.0.1,
      ne_eqb _ _ x.0.0.0.0.0.0.0.0.0.0.0.0.0.0.1,
      ne_eqb _ _ x.0.0.0.0.0.0.0.0.0.0.0.0.0.1,
      ne_eqb _ _ x.0.0.0.0.0.0.0.0.0.0.0.0.1,
      ne_eqb _ _ x.0.0.0.0.0.0.0.0.0.0.0.1,
      ne_eqb _ _ x.0.0.0.0.0.0.0.0.0.0.1,
      ne_eqb _ _ x.0.0.0.0.0.0.0.0.0.1,
      ne_eqb _ _ x.0.0.0.0.0.0.0.0.1,
      ne_eqb _ _ x.0.0.0.0.0.0.0.1,
      ne_eqb _ _ x.0.0.0.0.0.0.1,
      ne_eqb _ _ x.0.0.0.0.0.1,
      ne_eqb _ _ x.0.0.0.0.1,
      ne_eqb _ _ x.0.0.0.1,
      ne_eqb _ _ x.0.0.1,
      ne_eqb _ _ x.0.1,
      ne_eqb _ _ x.1,
    )

pub returns-in-0 : goal.returns-in-0
unfolding kind_of
returns-in-0 c = rw c.in-0.is

pub returns-in-1 : goal.returns-in-1
unfolding kind_of
returns-in-1 c = rw c.in-1.is

pub returns-in-2 : goal.returns-in-2
unfolding kind_of
returns-in-2 c = rw c.in-2.is

pub returns-in-3 : goal.returns-in-3
unfolding kind_of
returns-in-3 c = rw c.in-3.is

pub returns-in-4 : goal.returns-in-4
unfolding kind_of
returns-in-4 c = rw c.in-4.is

pub returns-in-5 : goal.returns-in-5
unfolding kind_of
returns-in-5 c = rw c.in-5.is

pub returns-in-9 : goal.returns-in-9
unfolding kind_of
returns-in-9 c = rw c.in-9.is

pub returns-in-10 : goal.returns-in-10
unfolding kind_of
returns-in-10 c = rw c.in-10.is

pub returns-in-11 : goal.returns-in-11
unfolding kind_of
returns-in-11 c = rw c.in-11.is

pub returns-in-128 : goal.returns-in-128
unfolding kind_of
returns-in-128 c = rw c.in-128.is

pub returns-in-64 : goal.returns-in-64
unfolding kind_of
returns-in-64 c = rw c.in-64.is

pub returns-in-65 : goal.returns-in-65
unfolding kind_of
returns-in-65 c = rw c.in-65.is

pub returns-in-66 : goal.returns-in-66
unfolding kind_of
returns-in-66 c = rw c.in-66.is

pub returns-in-6 : goal.returns-in-6
unfolding kind_of
returns-in-6 c = rw c.in-6.is

pub returns-in-7 : goal.returns-in-7
unfolding kind_of
returns-in-7 c = rw c.in-7.is

pub returns-in-20 : goal.returns-in-20
unfolding kind_of
returns-in-20 c = rw c.in-20.is

pub returns-in-21 : goal.returns-in-21
unfolding kind_of
returns-in-21 c = rw c.in-21.is
