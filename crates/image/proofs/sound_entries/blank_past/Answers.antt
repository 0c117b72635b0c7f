-- `sound_entries::blank_past` meets its contract.
use mathlib.Core.Path.{sym, ◌∙◌}
use Rattle.executive.proofs.Assured.{and_false_left, and_true_left}
use Rattle.image.proofs.sound_entries.blank_past.Goals as goal

pub returns-then-not-are_zero : goal.returns-then-not-are_zero
returns-then-not-are_zero c = and_false_left _ _ (sym c.are_zero.ensures ∙ c.if-not-are_zero.true)

pub returns : goal.returns
returns c = and_true_left _ _ c.are_zero-2.result (sym c.are_zero.ensures ∙ c.if-not-are_zero.false) c.are_zero-2.ensures
