-- `trips::write_then_read` meets its contract: the record fits ten bytes, its start is the call's bytes, and those read
-- as the call.
use Prim.Native.Nat.{ℕ, ◌≤◌}
use mathlib.Core.Path.{◌≡◌, sym, ap, ◌∙◌}
use mathlib.Core.List.{List}
use native.Mathlib.Omega.{arith}
use lib.ListN.{length, replicate}
use lib.Seq.{length-take-le}
use lib.Dec.{lit≤}
use Rattle.records.specs.Reading.{read_of}
use Rattle.records.specs.Writing.{bytes_of}
use Rattle.records.proofs.writing.Laws.{bytes-short, write_length, write_never, out-start}
use Rattle.records.proofs.RoundTrips.{write_read}
use Rattle.records.proofs.trips.write_then_read.Goals as goal
use Rattle.records.proofs.trips.write_then_read.Goals.{In_ok-n}

abbrev zeros : List ℕ
zeros = replicate 10 0

abbrev count : In_ok-n → ℕ
count c = c.in_ok-n.n

abbrev last : In_ok-n → List ℕ
last c = c.write.new.out

counted : (c : In_ok-n) → count c ≡ length (bytes_of c.args.call)
counted c =
    write_length c.args.call zeros (lit≤ tt) (count c)
    (c.in_ok-n.ensures).answer

within : (c : In_ok-n) → count c ≤ length (last c)
within c = omega (arith, counted c, bytes-short c.args.call, c.write.auto.out)

pub slice_bounds-record-end : goal.slice_bounds-record-end
slice_bounds-record-end c = within c

pub slice_bounds-read-end : goal.slice_bounds-read-end
slice_bounds-read-end c = sym (length-take-le (count (goal.at.slice_bounds-read-end c).In_ok-n) (last (goal.at.slice_bounds-read-end c).In_ok-n) (within (goal.at.slice_bounds-read-end c).In_ok-n))

pub returns : goal.returns
returns c =
    let d = (goal.at.returns c).In_ok-n in
    let a = d.args in
    c.read.ensures
    ∙ ap read_of (out-start a.call zeros (lit≤ tt) (count d) (last d) (counted d) d.write.ensures.buffer)
    ∙ write_read a.call

pub returns-in_err-n : goal.returns-in_err-n
returns-in_err-n c = absurd (write_never c.args.call zeros (lit≤ tt) _ (c.in_err-n.ensures).answer)
