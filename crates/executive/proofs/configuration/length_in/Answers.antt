-- `executive::configuration::length_in` meets its contract.
use mathlib.Core.Path.{refl}
use borrow.Author.Tests.{eq-eqb, ne_eqb}
use Rattle.executive.specs.Configuration.{configuration_in}
use Rattle.executive.proofs.configuration.length_in.Goals as goal

pub returns-then-byte_at-ne64 : goal.returns-then-byte_at-ne64
unfolding configuration_in
returns-then-byte_at-ne64 c = rw (← c.byte_at.ensures, ne_eqb c.byte_at.result 0x40 c.if-byte_at-ne64.true) refl

pub returns-then-byte_at-ne66 : goal.returns-then-byte_at-ne66
unfolding configuration_in
returns-then-byte_at-ne66 c =
    rw (
      ← c.byte_at.ensures,
      eq-eqb c.byte_at.result 0x40 c.if-byte_at-ne64.false,
      ← c.tasks_in-n.ensures.0,
      ← c.place_in.ensures,
      ← c.byte_at-2.ensures,
      ne_eqb c.byte_at-2.result 0x42 c.if-byte_at-ne66.true,
    ) refl

pub returns : goal.returns
unfolding configuration_in
returns c =
    rw (
      ← c.byte_at.ensures,
      eq-eqb c.byte_at.result 0x40 c.if-byte_at-ne64.false,
      ← c.tasks_in-n.ensures.0,
      ← c.place_in.ensures,
      ← c.byte_at-2.ensures,
      eq-eqb c.byte_at-2.result 0x42 c.if-byte_at-ne66.false,
    ) refl
