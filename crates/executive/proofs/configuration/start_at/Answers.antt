use mathlib.Core.Path.{refl}
use borrow.Author.Tests.{eq-eqb, ne_eqb}
use Rattle.executive.specs.Table.{enter_all_in_flight}
use Rattle.executive.specs.Configuration.{marked_start}
use Rattle.executive.proofs.queue.InFlight.{lit-flying}
use Rattle.executive.proofs.configuration.start_at.Goals as goal

pub returns-then-mark_in-ne1 : goal.returns-then-mark_in-ne1
unfolding marked_start enter_all_in_flight
returns-then-mark_in-ne1 c = rw (← c.mark_in.ensures, ne_eqb c.mark_in.result 1 c.if-mark_in-ne1.true) (lit-flying 1 c.args.w c.requires.0)

pub returns : goal.returns
unfolding marked_start enter_all_in_flight
returns c = rw (c.enter.ensures, c.own_in.ensures, ← c.mark_in.ensures, eq-eqb c.mark_in.result 1 c.if-mark_in-ne1.false) refl
