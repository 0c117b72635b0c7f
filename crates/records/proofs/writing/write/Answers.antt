-- `writing::write` meets its contract: its test picks the case of `written_of` and of `out_of`.
use Prim.Native.Nat.{◌≤◌, ◌<◌}
use mathlib.Core.Path.{ap, ◌∙◌}
use mathlib.Core.List.{◌++◌}
use native.Mathlib.Omega.{arith}
use lib.ListN.{length, drop}
use Rattle.records.specs.Writing.{bytes_of}
use Rattle.records.proofs.writing.Laws.{write_refused, out-kept, write_done, out-done}
use Rattle.records.proofs.writing.write.Goals as goal
use Rattle.std.specs.Prelude.{Ok}

pub returns-then-out-n : goal.returns-then-out-n
returns-then-out-n c =
    let a = c.args in
    let e = c.encode-e.ensures in
    let h : length a.out.now < length (bytes_of a.call) = omega (arith, e.count) in
    record { answer = write_refused a.call a.out.now h; buffer = out-kept a.call a.out.now h }

pub returns : goal.returns
returns c =
    let a = c.args in
    let e = c.encode-e.ensures in
    let s = a.out.now in
    let h : length (bytes_of a.call) ≤ length s = omega (arith, e.count) in
    record {
      answer = ap Ok e.count ∙ write_done a.call s h;
      buffer = ap (λ b. b ++ drop c.encode-e.result.1 s) (c.copy_from_slice.ensures.after ∙ e.bytes)
          ∙ ap (λ k. bytes_of a.call ++ drop k s) e.count
          ∙ out-done a.call s h;
    }
