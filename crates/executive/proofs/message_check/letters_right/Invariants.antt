use mathlib.Core.Path.{◌≡◌}
use lib.ListN.{drop}
use Rattle.executive.specs.Check.{letters_right}
use Rattle.executive.proofs.message_check.letters_right.Given as goal

abbrev pub invariant-loop-m : goal.invariant-loop-m
invariant-loop-m l = letters_right l.tasks l.count l.p (drop l.m-index l.waiting) ≡ letters_right l.tasks l.count 15 l.waiting
