use Prim.Native.Nat.{◌+◌, ◌*◌}
use mathlib.Core.Path.{refl}
use native.Mathlib.Omega.{arith}
use lib.Dec.{eqb}
use lib.ListN.{get_or}
use Rattle.std.proofs.Common.{ℕ, rules}
use Rattle.image.proofs.Finds.{target-read, first-place}
use Rattle.image.proofs.Ranges.{First, checked-first, first-within}
use Rattle.image.proofs.runs.first_for.Goals as goal

pub returns : goal.returns
returns c =
    let a = c.args in
    let h = λ (i : ℕ). eqb a.k.0 (get_or a.b.now (704 + i * 6) 0) in
    let m : First h a.n c.find.result = checked-first _ _ c.find.result a.n h refl (λ i y q e. search rules) c.find.ensures.ran in
    record {
      place = first-within h a.n c.find.result m;
      value = λ t l.
          let z = l.sizes.pool in
          first-place a.k.0 t.rest.pool a.n (rw z c.requires) (λ i. get_or a.b.now (704 + i * 6) 0) (λ i b. target-read t l i (omega (arith, c.requires))) c.find.result m;
    }
