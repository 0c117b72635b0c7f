use mathlib.Core.Path.{◌≡◌}
use lib.ListN.{drop}
use lib.Dec.{eqb}
use Rattle.executive.specs.Lists.{all_of, ◌and◌}
use Rattle.executive.specs.Check.{is_nobody}
use Rattle.executive.proofs.subprogram_check.with_all.Given as goal

abbrev pub invariant-loop-k : goal.invariant-loop-k
invariant-loop-k l = (eqb l.all 0 and all_of is_nobody (drop l.k-index l.s.line)) ≡ (eqb l.initial.all 0 and all_of is_nobody l.s.line)
