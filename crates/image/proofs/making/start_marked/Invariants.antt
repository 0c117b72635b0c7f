-- `making::start_marked` meets its contract. The invariant: the bytes are the image of a table on the way, in which nobody past k
-- is ready.
use mathlib.Core.Path.{◌≡◌}
use lib.ListN.{length}
use Rattle.executive.specs.declared.Table.{Table}
use Rattle.executive.specs.Table.{InFlight, begin}
use Rattle.image.specs.Image.{image_length}
use Rattle.image.specs.Laid.{Laid}
use Rattle.image.proofs.FreshLaid.{Starting}
use Rattle.image.proofs.making.start_marked.Given as goal

abbrev pub invariant-loop-k : goal.invariant-loop-k
invariant-loop-k l = (t : Table) → Laid l.initial.b t → InFlight l.n (begin t) → t.ready ≡ 0 → Starting l.config l.b t l.n l.k
