-- `asking::list_in` meets its contract: the invariant is that the array begins with the addresses that were read.
use mathlib.Core.List.{[], ◌∷◌}
use mathlib.Core.Path.{◌≡◌, refl, sym, ap, ◌∙◌}
use native.Mathlib.Omega.{arith}
use Rattle.blocks.proofs.asking.Laws.{list-turn}
use Prim.Native.Nat.{ℕ}
use lib.ListN.{take, replicate, length-replicate, length-set}
use Rattle.blocks.specs.Asking.{count_in}
use Rattle.records.specs.Numbers.{number_of, cut}
use Rattle.blocks.proofs.asking.list_in.Goals as goal

pub loop-i-init : goal.loop-i-init
loop-i-init c = (length-replicate {A = ℕ} 255 0, refl)

pub loop-i-preserved : goal.loop-i-preserved
loop-i-preserved c =
    let v = c.loop-i in
    let m = c.byte_at-a.ensures in
    let n = c.byte_at-b.ensures in
    let x = c.from_be_bytes.ensures ∙ (λ i. number_of (m i ∷ n i ∷ [])) in (
      simp length-set v.invariant.0,
      list-turn c.args.head.now v.list v.i _ (omega (arith, c.count_in-count.ensures.1, v.invariant.0)) v.invariant.1 x,
    )

pub returns : goal.returns
returns c =
    let v = c.loop-i in
    let k : v.i ≡ count_in c.args.head.now = omega (arith, c.count_in-count.ensures.0) in
    record {
      size = v.invariant.0;
      begins = ap (λ i. take i v.list) (sym k) ∙ v.invariant.1 ∙ ap (λ i. cut (replicate i 2) 8 c.args.head.now) k;
    }
