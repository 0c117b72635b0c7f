-- `sound_subs::waiting_sets` meets its contract. The invariant: k is one who waits or past them all, and these are the sets of those before k.
use Prim.Native.Nat.{◌-◌, ◌≤◌, ◌<◌, min}
use mathlib.Core.Path.{◌≡◌}
use mathlib.Core.Bool.{true}
use Rattle.executive.specs.Flags.{is_set}
use Rattle.image.specs.Sound.{tasks_in}
use Rattle.image.specs.Marks.{Waiting}
use Rattle.image.proofs.sound_subs.waiting_sets.Given as goal

abbrev pub invariant-loop-k : goal.invariant-loop-k
invariant-loop-k l = (l.k ≤ 32) × (l.k < 32 → is_set l.waiters l.k ≡ true) × Waiting (min l.k l.count) l.sets (tasks_in l.b)

abbrev pub decreases-loop-k : goal.decreases-loop-k
decreases-loop-k l = 32 - l.k
