-- `Table::step_call` meets its contract: the record fits ten bytes, its start is the call's bytes, and the step is theirs.
use Prim.Native.Nat.{ℕ, ◌≤◌}
use mathlib.Core.Path.{◌≡◌, sym, ap, ◌∙◌}
use mathlib.Core.List.{List}
use native.Mathlib.Omega.{arith}
use lib.ListN.{length, replicate}
use lib.Seq.{length-take-le}
use lib.Dec.{lit≤}
use Rattle.records.specs.Writing.{bytes_of}
use Rattle.records.proofs.Assured.{promises}
use Rattle.executive.specs.Step.{step_of}
use Rattle.executive.proofs.step.OfRecord.{write_length, write_never, out-start}
use Rattle.executive.proofs.Table.step_call.Goals as goal
use Rattle.executive.proofs.Table.step_call.Goals.{In-Ok}

abbrev zeros : List ℕ
zeros = replicate 10 0

abbrev count : In-Ok → ℕ
count c = c.in-Ok.n

abbrev last : In-Ok → List ℕ
last c = c.write.new.out

counted : (c : In-Ok) → count c ≡ length (bytes_of c.args.call)
counted c =
    write_length c.args.call zeros (lit≤ tt) (count c)
    (sym c.in-Ok.is ∙ c.write.ensures.answer)

within : (c : In-Ok) → count c ≤ length (last c)
within c = omega (arith, counted c, promises.short c.args.call, c.write.auto.out)

pub slice_bounds-record-end : goal.slice_bounds-record-end
slice_bounds-record-end c = within c

pub slice_bounds-step-end : goal.slice_bounds-step-end
slice_bounds-step-end c = sym (length-take-le (count (goal.at.slice_bounds-step-end c).In-Ok) (last (goal.at.slice_bounds-step-end c).In-Ok) (within (goal.at.slice_bounds-step-end c).In-Ok))

pub returns-in-Ok : goal.returns-in-Ok
returns-in-Ok c =
    let d = (goal.at.returns-in-Ok c).In-Ok in
    let a = d.args in
    c.step.ensures
    ∙ ap (step_of a.self) (out-start a.call zeros (lit≤ tt) (count d) (last d) (counted d) d.write.ensures.buffer)

pub returns-in-Err : goal.returns-in-Err
returns-in-Err c =
    let w = c.write in
    absurd (write_never c.args.call zeros (lit≤ tt) _ (sym c.in-Err.is ∙ w.ensures.answer))
