use native.Mathlib.Omega.{arith}
use Rattle.image.proofs.ReadOff.{queued-read}
use Rattle.image.proofs.RestLaid.{pool-closed, taken-laid}
use Rattle.image.proofs.changes.take_request.Goals as goal

pub returns-then-n-eq0 : goal.returns-then-n-eq0
returns-then-n-eq0 c = λ t l f h. absurd (omega (arith, h, queued-read t l, c.if-n-eq0.true))

pub returns : goal.returns
returns c =
    λ t l f h.
    taken-laid t l _ c.args.i f (queued-read t l) h
    (c.set_queued.ensures _ (pool-closed t l c.args.i (omega (arith, c.if-i-gt31.false)) c.take_out.ensures.1 c.take_out.ensures.2))
