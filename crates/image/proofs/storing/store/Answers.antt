-- `storing::store` meets its contract: the two answers by the buffer's length.
use native.Mathlib.Omega.{arith}
use lib.ListN.{length}
use borrow.Author.Tests.{eq-eqb, ne_eqb}
use Rattle.image.specs.Image.{image_length, store_number, store_bytes}
use Rattle.image.proofs.storing.store.Goals as goal

pub returns-in_default : goal.returns-in_default
unfolding store_number store_bytes
returns-in_default c = let e = ne_eqb (length c.args.out.now) image_length c.in_default.ensures.cases in record { number = rw e; image = rw e }

pub returns : goal.returns
unfolding store_number store_bytes
returns c =
    let e = eq-eqb (length c.args.out.now) image_length c.in-Some.ensures.cases.long in
    record { number = rw e; image = rw e c.put_table.ensures }
