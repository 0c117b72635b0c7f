use mathlib.Core.Path.{refl, sym}
use lib.Seq.{length-take-le}
use Prim.Native.Nat.{◌≤◌}
use lib.ListN.{length}
use Rattle.executive.proofs.Assured.{fresh_law}
use Rattle.bench.specs.Pieces.{start_of}
use Rattle.bench.proofs.listing.start.Goals as goal

pub slice_bounds-fresh-end : goal.slice_bounds-fresh-end
slice_bounds-fresh-end c =
    let s = c.args.input.now in
    let h : c.length_in-at.result ≤ length s = rw c.length_in-at.ensures (fresh_law.within s) in
    sym (length-take-le c.length_in-at.result s h)

pub returns : goal.returns
unfolding start_of
returns c = rw (c.first.ensures, c.fresh-made.ensures, c.length_in-at.ensures) refl
