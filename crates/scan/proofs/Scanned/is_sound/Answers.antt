use mathlib.Core.Path.{refl}
use Rattle.scan.specs.Sound.{is_sound}
use Rattle.scan.proofs.Scanned.is_sound.Goals as goal

pub returns-then-arrivals_right : goal.returns-then-arrivals_right
unfolding is_sound
returns-then-arrivals_right c = rw (c.all_but_queue.ensures, c.tasks_in.ensures, ← c.arrivals_right.ensures, c.if-arrivals_right.true) refl

pub returns-else-arrivals_right : goal.returns-else-arrivals_right
unfolding is_sound
returns-else-arrivals_right c = rw (← c.arrivals_right.ensures, c.if-arrivals_right.false) refl
