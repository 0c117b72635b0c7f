use mathlib.Core.Path.{◌≡◌}
use lib.ListN.{take, drop}
use Rattle.executive.specs.declared.Table.{Table}
use Rattle.image.specs.Laid.{Laid}
use Rattle.executive.specs.Lists.{next_of}
use Rattle.executive.specs.Messages.{fits}
use Rattle.image.proofs.letters.first_fit.Given as goal

abbrev pub invariant-loop-i : goal.invariant-loop-i
invariant-loop-i l = (t : Table) → Laid l.b t → next_of (fits l.k.0 l.s.0) l.i (drop l.i (take l.n t.rest.messages)) ≡ next_of (fits l.k.0 l.s.0) 0 (take l.n t.rest.messages)
