use mathlib.Core.Path.{◌≡◌}
use Rattle.executive.specs.Check.{held_right}
use Rattle.executive.proofs.check.Subprograms.{held_from}
use Rattle.executive.proofs.subprogram_check.each_right.Given as goal

abbrev pub invariant-loop-m : goal.invariant-loop-m
invariant-loop-m l = held_from l.tasks l.count l.subs l.m ≡ held_right l.tasks l.count l.subs
