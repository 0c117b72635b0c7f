use lib.ListN.{drop}
use lib.Dec.{eqb}
use mathlib.Core.Path.{◌≡◌}
use Rattle.executive.specs.Lists.{all_of, ◌and◌}
use Rattle.executive.specs.Check.{is_free}
use Rattle.executive.proofs.passes.all_free.Given as goal

abbrev pub invariant-loop-q : goal.invariant-loop-q
invariant-loop-q l = ((eqb l.numbers 0 and eqb l.arguments 0) and all_of is_free (drop l.q-index l.places)) ≡ all_of is_free l.places
