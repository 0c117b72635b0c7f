use native.Mathlib.Omega.{arith}
use Rattle.image.proofs.Parts.{wrote, request_laid}
use Rattle.image.proofs.ReadOff.{queued-read}
use Rattle.image.proofs.RestLaid.{added-laid}
use Rattle.image.proofs.changes.add_request.Goals as goal

pub returns-then-n-gt31 : goal.returns-then-n-gt31
returns-then-n-gt31 c = λ t l f h. absurd (omega (arith, h, queued-read t l, c.if-n-gt31.true))

pub returns : goal.returns
returns c =
    let n = c.if-n-gt31.false in
    λ t l f h.
    added-laid t l _ c.args.q f (queued-read t l) (omega arith)
    (c.set_queued.ensures _ (wrote c.put_request.ensures (request_laid t l _ c.args.q (omega arith))))
