-- `telling::message_words` meets its contract: a sender, or any.
use native.Mathlib.Omega.{arith}
use Rattle.text.proofs.Assured.{put_last}
use borrow.Author.Tests.{eq-eqb}
use Rattle.why.proofs.telling.message_words.Goals as goal

pub returns-then-s-eq0 : goal.returns-then-s-eq0
returns-then-s-eq0 c =
    let p = put_last c.text.ensures (omega (arith, c.requires)) in
    rw (eq-eqb _ _ c.if-s-eq0.true) (p, omega (arith, p.place))
