-- `trips::read_then_write` meets its contract: what the writer says of the call that was read is said of the bytes
-- themselves.
use mathlib.Core.Path.{sym, ◌∙◌}
use native.Mathlib.Omega.{arith}
use Rattle.std.proofs.lemmas.Result.{err_from_is_err_and}
use Rattle.records.specs.Numbers.{Bytes}
use Rattle.records.proofs.RoundTrips.{again-call, again-out, again-refused, again_kept}
use Rattle.records.proofs.trips.read_then_write.Goals as goal

pub returns-in_err-call : goal.returns-in_err-call
returns-in_err-call c =
    let a = c.args in
    let p = err_from_is_err_and c.from_residual.result c.from_residual.ensures.1 in
    let e = sym (c.in_err-call.ensures) in
    rw (p.1, p.2) (record { answer = again-refused a.bytes.now a.out.now _ e; buffer = again_kept a.bytes.now a.out.now _ e })

pub returns : goal.returns
returns c =
    let w = c.write.ensures in
    let a = c.args in
    let h : Bytes a.bytes.now = λ i. omega (arith, c.type_inv.bytes i) in
    let e = sym (c.in_ok-call.ensures) in
    record {
      answer = w.answer ∙ again-call a.bytes.now a.out.now c.in_ok-call.call h e;
      buffer = w.buffer ∙ again-out a.bytes.now a.out.now c.in_ok-call.call h e;
    }
