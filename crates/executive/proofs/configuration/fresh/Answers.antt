-- `executive::configuration::fresh` meets its contract.
use mathlib.Core.Path.{refl}
use native.Mathlib.Omega.{arith}
use Rattle.executive.specs.Table.{items, levels_of}
use Rattle.executive.specs.Configuration.{dormant_table, fresh_table, fresh_of, sleepers}
use Rattle.executive.proofs.queue.InFlight.{begin-flying}
use Rattle.executive.proofs.configuration.Loops.{dormant-fit}
use Rattle.executive.proofs.configuration.fresh.Goals as goal

pub returns-then-not-is_configuration : goal.returns-then-not-is_configuration
unfolding fresh_of sleepers
returns-then-not-is_configuration c =
    rw (
      c.made.ensures,
      c.table_of.ensures,
      c.blank_rest-rest.ensures,
      c.all_dormant-none.ensures,
      ← c.is_configuration.ensures,
      c.if-not-is_configuration.true,
    ) refl

pub start_marked-v-requires : goal.start_marked-v-requires
unfolding items levels_of
start_marked-v-requires c =
    rw (
      c.begin-w.ensures,
      c.table_of-blank.ensures,
      c.blank_rest-rest-2.ensures,
      c.all_dormant-tasks.ensures,
    )
    (begin-flying _ _ (dormant-fit _ _ _ c.tasks_in-n.ensures.1) (omega (arith, c.tasks_in-n.ensures.1)) refl, refl)

pub returns : goal.returns
unfolding fresh_of fresh_table dormant_table
returns c =
    rw (
      c.made-2.ensures,
      c.start_marked-v.ensures,
      c.begin-w.ensures,
      c.table_of-blank.ensures,
      c.blank_rest-rest-2.ensures,
      c.byte_at.ensures,
      c.all_dormant-tasks.ensures,
      c.tasks_in-n.ensures.0,
      ← c.is_configuration.ensures,
      c.if-not-is_configuration.false,
    ) refl
