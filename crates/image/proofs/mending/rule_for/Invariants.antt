-- `mending::rule_for` meets its contract. The invariant: the notes so far are of other tasks.
use mathlib.Core.Path.{◌≡◌}
use lib.ListN.{drop}
use Rattle.image.specs.Mending.{rule_for}
use Rattle.image.proofs.mending.rule_for.Given as goal

abbrev pub invariant-loop-note : goal.invariant-loop-note
invariant-loop-note l = rule_for l.otherwise l.k l.list ≡ rule_for l.otherwise l.k (drop l.note-index l.list)
