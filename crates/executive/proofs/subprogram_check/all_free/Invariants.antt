use mathlib.Core.Path.{◌≡◌}
use lib.ListN.{drop}
use lib.Dec.{eqb}
use Rattle.executive.specs.Lists.{all_of, ◌and◌}
use Rattle.executive.specs.Check.{is_free_sub}
use Rattle.executive.proofs.subprogram_check.all_free.Given as goal

abbrev pub invariant-loop-s : goal.invariant-loop-s
invariant-loop-s l = (eqb l.all 0 and all_of is_free_sub (drop l.s-index l.subs)) ≡ all_of is_free_sub l.subs
