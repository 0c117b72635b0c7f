use mathlib.Core.Path.{◌≡◌}
use Rattle.executive.specs.Lists.{up_to}
use Rattle.executive.specs.Check.{waits_for_none}
use Rattle.executive.proofs.check.Subprograms.{among}
use Rattle.executive.proofs.subprogram_check.none_waits.Given as goal

abbrev pub invariant-loop-k : goal.invariant-loop-k
invariant-loop-k l = l.none ≡ up_to (waits_for_none l.tasks) (among l.k l.count)
