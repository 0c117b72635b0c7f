-- `storing::put_mail` meets its contract: the two writes make one.
use native.Mathlib.Omega.{arith}
use Rattle.records.specs.Numbers.{bytes_in}
use Rattle.image.proofs.Spans.{and_then}
use Rattle.image.proofs.storing.put_mail.Goals as goal

pub returns : goal.returns
returns c =
    let a = c.args in
    and_then a.out.now a.at (bytes_in 1 a.mail.sender.0) (bytes_in 8 a.mail.text.0) c.put_byte.ensures c.put_long.ensures (omega (arith, c.requires))
