-- `zeros::quad` meets its contract: four bytes put together.
use native.Mathlib.Omega.{arith}
use Rattle.image.proofs.Noughts.{quad_put}
use Rattle.image.proofs.zeros.quad.Goals as goal

pub returns : goal.returns
returns c =
    let z = quad_put c.args.b.now c.args.at c.from_le_bytes.result (λ k. omega (arith, c.type_inv.b k)) c.from_le_bytes.ensures in
    record { result_value = z.0; result_value_2 = z.1 }
