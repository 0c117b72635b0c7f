use mathlib.Core.Path.{ap}
use native.Mathlib.Omega.{arith}
use Prim.Native.Nat.{ℕ}
use Rattle.executive.specs.declared.Task.{Task}
use Rattle.image.proofs.ReadOff.{waiter-of, entry-none}
use Rattle.image.proofs.fields.end_waiter.Goals as goal

pub returns-then-i-gt15 : goal.returns-then-i-gt15
returns-then-i-gt15 c = λ t l. ap (λ (x : Task). x.end_waiter) (entry-none t l _ _ c.place-i.ensures c.if-i-gt15.true)

pub returns : goal.returns
returns c = λ t l. ap (λ (n : ℕ). record { 0 = n }) (waiter-of t l _ _ c.place-i.ensures (omega (arith, c.if-i-gt15.false)))
