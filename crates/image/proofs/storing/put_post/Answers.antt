-- `storing::put_post` meets its contract: the three writes make one.
use native.Mathlib.Omega.{arith}
use Rattle.image.proofs.Trips.{post_made}
use Rattle.image.proofs.storing.put_post.Goals as goal

pub returns-clause-value : goal.returns-clause-value
returns-clause-value c =
    post_made c.args.rest.now c.args.out.now _ _ _ c.told-out (omega arith) (omega arith)
    c.put_row.ensures.value c.put_byte.ensures c.put_row-2.ensures.value
