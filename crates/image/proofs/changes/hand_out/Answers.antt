use native.Mathlib.Omega.{arith}
use Rattle.image.proofs.ReadOff.{sent-read}
use Rattle.image.proofs.RestLaid.{letters-closed, handed-laid}
use Rattle.image.proofs.changes.hand_out.Goals as goal

pub returns-then-n-eq0 : goal.returns-then-n-eq0
returns-then-n-eq0 c = λ t l f h. absurd (omega (arith, h, sent-read t l, c.if-n-eq0.true))

pub returns : goal.returns
returns c =
    λ t l f h.
    handed-laid t l _ c.args.i f (sent-read t l) h
    (c.set_sent.ensures _ (letters-closed t l c.args.i (omega (arith, c.if-i-gt31.false)) c.take_out.ensures.1 c.take_out.ensures.2))
