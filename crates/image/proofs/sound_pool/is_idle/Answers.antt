-- `sound_pool::is_idle` meets its contract: the byte of its kind tells whether a task is dormant.
use native.Mathlib.Omega.{arith}
use Rattle.image.proofs.KindsRead.{idle-there, idle-none}
use Rattle.image.proofs.sound_pool.is_idle.Goals as goal

pub returns-then-i-gt15 : goal.returns-then-i-gt15
returns-then-i-gt15 c = idle-none c.args.b.now c.args.k _ c.place-i.ensures c.if-i-gt15.true

pub returns : goal.returns
returns c = idle-there c.args.b.now c.args.k _ c.place-i.ensures (omega (arith, c.if-i-gt15.false))
