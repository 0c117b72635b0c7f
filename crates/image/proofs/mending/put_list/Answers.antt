-- `mending::put_list` meets its contract: its two writes make one, and the array's type says how many places there are.
use mathlib.Core.Path.{◌≡◌, refl}
use mathlib.Core.List.{[], ◌∷◌}
use native.Mathlib.Omega.{arith}
use lib.ListN.{length}
use Rattle.image.specs.Blocks.{row}
use Rattle.image.specs.Mending.{note_bytes}
use Rattle.image.proofs.Spans.{and_then, length-row}
use Rattle.image.proofs.mending.put_list.Goals as goal

pub returns : goal.returns
returns c =
    let l = c.args.l.now in
    let k : length l.list ≡ 16 = omega arith in
    and_then c.args.out.now 0 (l.noted ∷ []) (row note_bytes l.list) c.put_byte.ensures c.put_row.ensures.value
    (omega (arith, k, length-row note_bytes 2 (λ x. refl) l.list, c.requires))
