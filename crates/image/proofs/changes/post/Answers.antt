-- `changes::post` meets its contract: those behind move down, the message is written, and one more waits.
use native.Mathlib.Omega.{arith}
use Rattle.image.proofs.ReadOff.{sent-read}
use Rattle.image.proofs.RestLaid.{letters_slid, posted-laid}
use Rattle.image.proofs.changes.post.Goals as goal

pub returns-then-n-gt31 : goal.returns-then-n-gt31
returns-then-n-gt31 c = λ t l f h g. absurd (omega (arith, g, sent-read t l, c.if-n-gt31.true))

pub returns-then-n-at : goal.returns-then-n-at
returns-then-n-at c = λ t l f h g. absurd (omega (arith, h, sent-read t l, c.if-n-at.true))

pub returns : goal.returns
returns c =
    let a = c.args in
    λ t l f h g.
    posted-laid t l a.at _ a.m f (sent-read t l) h g
    (c.set_sent.ensures _ (letters_slid t l a.at _ a.m (omega (arith, c.if-n-at.false)) (omega (arith, c.if-n-gt31.false)) c.letters_down.ensures c.put_message.ensures))
