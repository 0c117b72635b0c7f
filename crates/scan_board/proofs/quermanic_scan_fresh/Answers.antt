-- `quermanic_scan_fresh` meets its contract: its three outcomes are the definition's.
use mathlib.Core.Path.{ap}
use native.Mathlib.Omega.{arith}
use Rattle.scan.specs.declared.Made.{Made}
use Rattle.scan.specs.Making.{made_of}
use Rattle.scan_board.proofs.Answered.{holds, fresh-length, fresh-refused, fresh-made}
use Rattle.scan_board.proofs.quermanic_scan_fresh.Goals as goal

pub returns-then-image-ne-IMAGE : goal.returns-then-image-ne-IMAGE
returns-then-image-ne-IMAGE c =
    let a = c.args in
    let e = fresh-length a.config.now a.image.now c.if-image-ne-IMAGE.true in
    record { number = e.0; image = e.1; holds = λ z. absurd (omega arith) }

pub returns-then-made-ne0 : goal.returns-then-made-ne0
returns-then-made-ne0 c =
    let a = c.args in
    let f = c.fresh-made in
    let e = fresh-refused a.config.now a.image.now f.result f.ensures (omega (arith, c.if-image-ne-IMAGE.false)) c.if-made-ne0.true in
    record { number = e.0; image = e.1; holds = λ z. absurd (c.if-made-ne0.true z) }

pub returns : goal.returns
returns c =
    let f = c.fresh-made in
    let a = c.args in
    let e =
    fresh-made a.config.now a.image.now f.result f.ensures (omega (arith, c.if-image-ne-IMAGE.false))
    (omega (arith, c.if-made-ne0.false)) c.put_scan.ensures.1 in
    let h = holds f.result.table (made_of a.config.now).table c.put_scan.ensures.0 (ap (λ (m : Made). m.table) f.ensures) c.put_scan.ensures.1 in
    record { number = e.0; image = e.1; holds = λ z. h }
