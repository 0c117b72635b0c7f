-- `sound_subs::subs_right` meets its contract. The invariant: those from m on decide; those that are passed over are free and keep
-- the rule.
use Prim.Native.Nat.{◌-◌, ◌≤◌, min}
use mathlib.Core.Path.{◌≡◌}
use Rattle.executive.specs.Check.{held_right}
use Rattle.executive.proofs.Assured.{held_from}
use Rattle.image.specs.Sound.{tasks_in, subs_in}
use Rattle.image.proofs.sound_subs.subs_right.Given as goal

abbrev pub invariant-loop-m : goal.invariant-loop-m
invariant-loop-m l = (l.m ≤ 32) × (held_from (tasks_in l.b) l.count (subs_in l.b) (min l.m 8) ≡ held_right (tasks_in l.b) l.count (subs_in l.b))

abbrev pub decreases-loop-m : goal.decreases-loop-m
decreases-loop-m l = 32 - l.m
