-- A subprogram's block is written as the trait says: the two writes make one.
use mathlib.Core.Path.{◌≡◌, ap, ◌∙◌, refl}
use mathlib.Core.List.{[], ◌∷◌}
use native.Mathlib.Omega.{arith}
use lib.ListN.{length}
use Prim.Native.Nat.{◌*◌}
use Rattle.image.specs.Blocks.{row}
use Rattle.image.specs.Image.{place_bytes}
use Rattle.image.proofs.Spans.{and_then, length-row}
use Rattle.image.proofs.Trips.{sub-length}
use Rattle.image.proofs.storing.SubBlock.put.Goals as goal

pub returns-clause-width : goal.returns-clause-width
returns-clause-width c = sub-length c.args.self.now (omega arith)

pub returns-clause-value : goal.returns-clause-value
returns-clause-value c =
    let a = c.args in
    let s = a.self.now in
    let k : length s.line ≡ 16 = omega arith in
    let n : length (row place_bytes s.line) ≡ 16 = length-row place_bytes 1 (λ k. refl) s.line ∙ ap (λ m. m * 1) k in
    and_then a.out.now a.at (s.holder.0 ∷ s.waiting ∷ []) (row place_bytes s.line) c.put_both.ensures c.put_row.ensures.value
    (omega (arith, n, c.requires))
