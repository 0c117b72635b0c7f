-- `tell` meets its contract: what is told is within the buffer.
use mathlib.Core.Path.{sym}
use lib.Seq.{length-take-le}
use Rattle.why.proofs.Assured.{promises}
use Rattle.why_program.proofs.tell.Goals as goal

pub slice_bounds-out-end : goal.slice_bounds-out-end
slice_bounds-out-end g c = promises.told-within _ _ _ _ _ c.tell-n.ensures

pub slice_bounds-write_all-end : goal.slice_bounds-write_all-end
slice_bounds-write_all-end g c =
    sym (length-take-le c.tell-n.result c.tell-n.new.out (promises.told-within _ _ _ _ _ c.tell-n.ensures))
