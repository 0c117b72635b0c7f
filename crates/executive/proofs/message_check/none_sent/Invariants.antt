use mathlib.Core.Path.{◌≡◌}
use lib.ListN.{drop}
use lib.Dec.{eqb}
use Rattle.executive.specs.Lists.{all_of, ◌and◌}
use Rattle.executive.specs.Check.{is_no_message}
use Rattle.executive.proofs.message_check.none_sent.Given as goal

abbrev pub invariant-loop-m : goal.invariant-loop-m
invariant-loop-m l = ((eqb l.numbers 0 and eqb l.texts 0) and all_of is_no_message (drop l.m-index l.places)) ≡ all_of is_no_message l.places
