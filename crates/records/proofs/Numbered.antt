-- The laws of the refusals' numbers: no two refusals have the same.
use mathlib.Core.Path.{◌≡◌, refl}
use native.Mathlib.Omega.{arith}
use Rattle.records.specs.Refusals.{refusal_number, refusal_for}
use Rattle.records.specs.declared.Refusal.{Refusal}
use Rattle.records.specs.declared.Refusal.TheVariants as refusal

pub numbered : (r : Refusal) → refusal_for (refusal_number r) ≡ r
numbered refusal.NoTable = refl
numbered refusal.NoConfiguration = refl
numbered refusal.WrongLength = refl
numbered refusal.UnknownKind = refl
numbered refusal.NobodyActive = refl
numbered refusal.OutOfRange = refl
numbered refusal.NamesCaller = refl
numbered refusal.QueueFull = refl
numbered refusal.AlarmRunning = refl
numbered refusal.EndOfTime = refl
numbered refusal.HeldAlready = refl
numbered refusal.NotHeld = refl
numbered refusal.StillHeld = refl
numbered refusal.MessagesFull = refl
numbered refusal.Unmendable = refl
numbered refusal.OutsideImage = refl
numbered refusal.NotListed = refl
numbered refusal.BufferShort = refl
numbered refusal.ReadOtherwise = refl

-- no refusal has the number 0
pub numbered_some : (r : Refusal) → refusal_number r ≡ 0 → ⊥
numbered_some refusal.NoTable e = omega arith
numbered_some refusal.NoConfiguration e = omega arith
numbered_some refusal.WrongLength e = omega arith
numbered_some refusal.UnknownKind e = omega arith
numbered_some refusal.NobodyActive e = omega arith
numbered_some refusal.OutOfRange e = omega arith
numbered_some refusal.NamesCaller e = omega arith
numbered_some refusal.QueueFull e = omega arith
numbered_some refusal.AlarmRunning e = omega arith
numbered_some refusal.EndOfTime e = omega arith
numbered_some refusal.HeldAlready e = omega arith
numbered_some refusal.NotHeld e = omega arith
numbered_some refusal.StillHeld e = omega arith
numbered_some refusal.MessagesFull e = omega arith
numbered_some refusal.Unmendable e = omega arith
numbered_some refusal.OutsideImage e = omega arith
numbered_some refusal.NotListed e = omega arith
numbered_some refusal.BufferShort e = omega arith
numbered_some refusal.ReadOtherwise e = omega arith
