use mathlib.Core.Path.{◌≡◌}
use Prim.Native.Nat.{◌+◌}
use lib.ListN.{take, drop}
use Rattle.executive.specs.declared.Table.{Table}
use Rattle.image.specs.Laid.{Laid}
use Rattle.executive.specs.Messages.{stay_ahead, urgency}
use Rattle.image.proofs.letters.ahead.Given as goal

abbrev pub invariant-loop-i : goal.invariant-loop-i
invariant-loop-i l = (t : Table) → Laid l.b t → stay_ahead urgency l.p (take l.n t.rest.messages) ≡ l.i + stay_ahead urgency l.p (drop l.i (take l.n t.rest.messages))
