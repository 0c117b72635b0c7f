-- A well-formed table has what the decisions ask of one.
use Rattle.executive.specs.declared.Table.{Table}
use Rattle.executive.specs.Table.{ArraysInOrder, TimesInOrder}
use Rattle.executive.specs.WellFormed.{WellFormed}

module _ (t : Table) (w : WellFormed t) where
  pub fit_of : ArraysInOrder t
  fit_of = record {
    all = w.numbers.sizes.tasks;
    few = w.numbers.ready;
    tidy = w.queue.tidy;
    neat = record { room = w.numbers.queued; clear = w.pool };
  }

  pub standing-of : TimesInOrder t
  standing-of = record { fit = fit_of; clocked = w.numbers.clock; started = w.started }
