-- `sound_pool::named` meets its contract. The invariant: those whose numbers stand from i on, with those so far, are all.
use mathlib.Core.Path.{◌≡◌}
use lib.ListN.{drop}
use Rattle.image.specs.Sound.{namings, names_in}
use Rattle.image.proofs.sound_pool.named.Given as goal

abbrev pub invariant-loop-i : goal.invariant-loop-i
invariant-loop-i l = namings l.count l.all (drop l.i (names_in l.b l.step l.n l.at)) ≡ namings l.count l.set (names_in l.b l.step l.n l.at)
