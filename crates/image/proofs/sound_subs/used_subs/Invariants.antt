-- `sound_subs::used_subs` meets its contract. The invariant: it is the set of those before m that are not free.
use Rattle.image.specs.Marks.{Marked}
use Rattle.image.proofs.LinesRead.{in_use}
use Rattle.image.proofs.sound_subs.used_subs.Given as goal

abbrev pub invariant-loop-m : goal.invariant-loop-m
invariant-loop-m l = Marked l.m l.used (in_use l.b l.sets)
